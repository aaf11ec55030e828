-- Only in the last second can ticks pass the end of time; there the one that would is the one that reaches it.
use mathlib.Core.Path.{sym}
use native.Mathlib.Omega.{arith}
use Rattle.reach.proofs.Reached.{cycles_some}
use Rattle.reach.proofs.Cases.{before_last, within_last, past_last}
use Rattle.reach.proofs.Span.ticks_in_time.Goals as goal
use Rattle.reach.proofs.Span.ticks_in_time.Goals.{else-self-eq-LAST_SECOND-via-else-self-eq-LAST_SECOND}
use Rattle.reach.proofs.Span.ticks_in_time.Goals.{
  else-self-eq-LAST_SECOND-via-then-self-eq-LAST_SECOND+else-self-ge-SECOND,
}

pub overflow_sub-result : goal.overflow_sub-result
overflow_sub-result c = omega (arith, cycles_some)

pub returns-then-self-ge-SECOND : goal.returns-then-self-ge-SECOND
returns-then-self-ge-SECOND c =
    let in_here = c.args.self.in_time.in_here in
    let full = rw in_here at c.if-self-ge-SECOND.true in
    rw (c.cycles_to.ensures, in_here)
    (sym (past_last c.args.self.clock _ c.args.n _ c.if-self-eq-LAST_SECOND.true full))

pub returns-else-self-eq-LAST_SECOND : goal.returns-else-self-eq-LAST_SECOND
returns-else-self-eq-LAST_SECOND c =
    let a = c.args in
    elim c.else-self-eq-LAST_SECOND.branch [
      | else-self-eq-LAST_SECOND-via-then-self-eq-LAST_SECOND+else-self-ge-SECOND w ↦
          sym (within_last a.self.clock _ a.n _ (rw a.self.in_time.in_here at w.if-self-ge-SECOND.false))
      | else-self-eq-LAST_SECOND-via-else-self-eq-LAST_SECOND w ↦
          sym (before_last a.self.clock _ a.n _ w.if-self-eq-LAST_SECOND.false)
    ]
