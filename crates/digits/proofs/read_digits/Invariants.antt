-- A digit more is so many times the number and the digit: so while the bytes make a number that fits those that are
-- left decide.
use mathlib.Core.Path.{◌≡◌}
use lib.ListN.{drop}
use Rattle.digits.specs.Digits.{number_in}
use Rattle.digits.proofs.DigitByDigit.{read_after}
use Rattle.digits.proofs.read_digits.Given as goal

abbrev pub invariant-loop-b : goal.invariant-loop-b
invariant-loop-b g l = read_after g.B.Base.BASE l.v (drop l.b-index l.s) ≡ number_in g.B.Base.BASE l.s
