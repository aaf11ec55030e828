-- Digits that lead well make the number that they make after 0.
use mathlib.Core.Path.{sym, ◌∙◌}
use Rattle.digits.proofs.DigitByDigit.{number_leads}
use Rattle.digits.proofs.read_digits.Goals as goal

pub loop-b-init : goal.loop-b-init
loop-b-init g c = number_leads _ _ g.met.B.Base.some (sym c.if-not-leads_well.false ∙ c.leads_well.ensures)
