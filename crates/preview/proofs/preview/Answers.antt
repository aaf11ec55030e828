-- The checks above 15, then the ticks.
use mathlib.Core.Path.{refl}
use Rattle.change.proofs.Given.{handed_on}
use Rattle.preview.proofs.Checked.{refused_before}
use Rattle.preview.proofs.preview.Goals as goal

pub returns-in_err-check : goal.returns-in_err-check
returns-in_err-check c =
    handed_on _ _ c.from_residual.ensures.1 refl
    (refused_before _ _ c.requires.e_value c.requires.op_value _ c.in_err-check.ensures)
