-- An idle generator places no edge; a running one is due exactly where its instant is before the time after the tick.
use Rattle.std.proofs.Common.{◌≡◌, refl, sym, ◌∙◌, ℕ, false}
use Rattle.std.proofs.lemmas.Bool.{eq-eqb}
use Rattle.model.specs.declared.Generator.{Generator}
use Rattle.model.specs.Clock.{shown}
use Rattle.model.specs.Generator.{is_due}
use Rattle.model.proofs.Laws.Eighths.{eighth_below_8}
use Rattle.generator.specs.Advance.{advance_of}
use Rattle.generator.proofs.Tick.{comparable, running, due, decides}
use Rattle.generator.proofs.advance.Goals as goal
use Rattle.generator.proofs.advance.Goals.{then-g-eq0-via-then-g-eq0, then-g-eq0-via-else-g-eq0+then-not-is_before}

pub is_before-requires : goal.is_before-requires
is_before-requires c = comparable c.requires c.if-g-eq0.false

pub eighth-requires : goal.eighth-requires
eighth-requires c = due c.requires c.if-g-eq0.false (sym c.is_before.ensures ∙ c.if-not-is_before.false)

pub edge_code-requires : goal.edge_code-requires
edge_code-requires c = rw c.eighth.ensures (eighth_below_8 _ _ _)

pub follow-requires : goal.follow-requires
follow-requires c = running c.requires c.if-g-eq0.false

idle : (g : Generator) (a s : ℕ) → g.left ≡ 0 → is_due g a s ≡ false
unfolding is_due
idle g a s none = rw (eq-eqb g.left 0 none) refl

pub returns-then-g-eq0 : goal.returns-then-g-eq0
unfolding advance_of
returns-then-g-eq0 c =
    elim c.then-g-eq0.branch [
      | then-g-eq0-via-then-g-eq0 w ↦ simp (idle c.args.g (shown c.args.k) c.args.step w.if-g-eq0.true)
      | then-g-eq0-via-else-g-eq0+then-not-is_before w ↦
          simp (decides c.requires w.if-g-eq0.false (sym w.is_before.ensures ∙ w.if-not-is_before.true))
    ]

pub returns : goal.returns
unfolding advance_of
returns c = simp (
  c.edge_code.ensures,
  c.eighth.ensures,
  c.follow.ensures,
  decides c.requires c.if-g-eq0.false (sym c.is_before.ensures ∙ c.if-not-is_before.false),
)
