-- A run moves no FIFO, so the record with the parts of its change is the model's.
use mathlib.Core.Path.{◌≡◌, refl, sym, ap, ◌∙◌}
use mathlib.Core.Bool.{Bool, cond}
use Prim.Native.Nat.{ℕ}
use Rattle.std.specs.Prelude.{Ok}
use Rattle.model.specs.RunLine.{run_line}
use Rattle.model.specs.Execute.{execute}
use Rattle.model.specs.declared.Engine.{Engine}
use Rattle.model.specs.declared.Outcome.{Outcome}
use Rattle.change.specs.declared.Change.{Change}
use Rattle.change.specs.Changes.{applied, fifos_moved, Gives}
use Rattle.change.proofs.Given.{others_still}

pub run_applied : (e : Engine) (a : ℕ) (m : Change) → Gives e (run_line a) (execute e (run_line a)) (Ok m)
    → applied e m ≡ (execute e (run_line a)).engine
run_applied e a m is =
    ap (λ (moves : Bool). applied (cond moves (fifos_moved e (run_line a)) e) m)
    (sym (is.moving ∙ others_still e (run_line a) refl refl))
    ∙ ap (λ (o : Outcome). o.engine) is.is
