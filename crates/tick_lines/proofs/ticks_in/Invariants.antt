-- The loop passes the digits of a number, seven at most.
use mathlib.Core.Path.{◌≡◌}
use Rattle.tick_lines.proofs.Digits.{DigitsTo}
use Rattle.tick_lines.proofs.ticks_in.Given as goal

abbrev pub invariant-loop-b : goal.invariant-loop-b
invariant-loop-b l = (l.digits ≡ l.b-index) × DigitsTo l.s l.digits l.v
