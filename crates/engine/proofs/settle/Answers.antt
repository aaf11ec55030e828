-- A refusal leaves the record as it was. Else it is the record with its FIFOs moved, or as it was, and the parts of
-- the change: the record of the outcome that the change makes.
use mathlib.Core.Path.{◌≡◌, refl, sym, ap, ◌∙◌}
use mathlib.Core.Bool.{cond}
use Rattle.model.specs.declared.Outcome.{Outcome}
use Rattle.change.specs.Changes.{fifos_moved}
use Rattle.engine.proofs.settle.Goals as goal
use Rattle.engine.proofs.settle.Goals.{Joined-m, then-m, else-m}

pub move_fifos-e-requires : goal.move_fifos-e-requires
move_fifos-e-requires c = sym (rw c.in-Ok.is at c.requires).moving ∙ c.if-m.true

moved_is : (c : Joined-m)
    → let start = c.args in
    c.if-m.e ≡ cond c.in-Ok.m.moves (fifos_moved start.e start.c) start.e
moved_is c =
    elim c.if-m.branch [
      | then-m w ↦ rw (w.e-is, w.move_fifos-e.ensures, w.if-m.true) refl
      | else-m w ↦ rw (w.e-is, w.if-m.false) refl
    ]

pub returns : goal.returns
returns c =
    rw (c.apply.ensures, moved_is (goal.at.returns c).Joined-m)
    (ap (λ (o : Outcome). o.engine) (rw c.in-Ok.is at c.requires).is)
