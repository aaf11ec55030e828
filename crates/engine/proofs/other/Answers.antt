-- What names no op is refused with 5; else an op above 8, or the checks and then the op.
use mathlib.Core.Path.{refl, sym}
use Rattle.change.proofs.Given.{refusal_gives, handed_on}
use Rattle.engine.proofs.Steps.{accepted_gives, unknown_gives}
use Rattle.engine.proofs.other.Goals as goal

pub returns-in_err-op : goal.returns-in_err-op
returns-in_err-op c =
    handed_on _ _ c.from_residual.ensures.1 c.in_err-op.ensures.1
    (unknown_gives _ _ c.requires.e_value c.in_err-op.ensures.0)

pub returns-in_err-check-in_default : goal.returns-in_err-check-in_default
returns-in_err-check-in_default c =
    handed_on _ _ c.from_residual-in_err-check-in_default.ensures.1 refl
    (refusal_gives _ _ _ c.in_err-check-in_default.ensures)

pub returns-in_ok-check-in_default : goal.returns-in_ok-check-in_default
returns-in_ok-check-in_default c = accepted_gives _ _ (sym c.in_ok-check-in_default.ensures) c.perform.ensures
