-- The differences of the places are not below 0 and small, and together they are E - A.
use native.Mathlib.Omega.{arith}
use mathlib.Core.Path.{◌∙◌}
use borrow.Author.Tests.{eq-eqb, ne_eqb}
use Rattle.generator.proofs.Ahead.{Ahead, ahead, length_low, eighth_ahead}
use Rattle.generator.proofs.eighth.Goals as goal
use Rattle.generator.proofs.eighth.Goals.{Joined-g-k, then-g-k, else-g-k}

pub overflow_mul-length : goal.overflow_mul-length
overflow_mul-length c = omega (arith, length_low c.requires)

-- what is known once the pending second is told apart from the one shown
known : (c : Joined-g-k) → Ahead c.args.g c.args.k c.args.step c.if-g-k.later
known c =
    elim c.if-g-k.branch [
      | then-g-k w ↦ ahead c.requires (w.later-is ∙ rw (eq-eqb _ _ w.if-g-k.true))
      | else-g-k w ↦ ahead c.requires (w.later-is ∙ rw (ne_eqb _ _ w.if-g-k.false))
    ]

pub overflow_add-whole : goal.overflow_add-whole
overflow_add-whole c = omega (arith, known (goal.at.overflow_add-whole c).Joined-g-k)

pub overflow_sub-whole : goal.overflow_sub-whole
overflow_sub-whole c = omega (arith, known (goal.at.overflow_sub-whole c).Joined-g-k)

pub overflow_mul-ahead : goal.overflow_mul-ahead
overflow_mul-ahead c = omega (arith, known (goal.at.overflow_mul-ahead c).Joined-g-k)

pub overflow_mul-ahead-2 : goal.overflow_mul-ahead-2
overflow_mul-ahead-2 c = omega (arith, known (goal.at.overflow_mul-ahead-2 c).Joined-g-k)

pub overflow_mul-ahead-3 : goal.overflow_mul-ahead-3
overflow_mul-ahead-3 c = omega (arith, known (goal.at.overflow_mul-ahead-3 c).Joined-g-k)

pub overflow_add-ahead : goal.overflow_add-ahead
overflow_add-ahead c = omega (arith, known (goal.at.overflow_add-ahead c).Joined-g-k)

pub overflow_mul-ahead-4 : goal.overflow_mul-ahead-4
overflow_mul-ahead-4 c = omega (arith, known (goal.at.overflow_mul-ahead-4 c).Joined-g-k)

pub overflow_sub-ahead : goal.overflow_sub-ahead
overflow_sub-ahead c = omega (arith, known (goal.at.overflow_sub-ahead c).Joined-g-k)

pub overflow_mul-ahead-5 : goal.overflow_mul-ahead-5
overflow_mul-ahead-5 c =
    omega (arith, known (goal.at.overflow_mul-ahead-5 c).Joined-g-k, length_low c.requires)

pub from_the_top-requires : goal.from_the_top-requires
from_the_top-requires c =
    length_low c.requires

pub returns : goal.returns
returns c =
    c.from_the_top.ensures ∙ rw (known (goal.at.returns c).Joined-g-k).exact (eighth_ahead c.requires)
