-- The field check, then number 17, first for the sign and then for the seconds.
use Rattle.std.proofs.Common.{sym, ◌∙◌, ltb-false, ltb-true}
use Rattle.change.proofs.Given.{handed_on}
use Rattle.departure.proofs.Checked.{recover_unlisted}
use Rattle.departure.proofs.Checked.{recover_negative, recover_at_the_end, recover_gives}
use Rattle.departure.proofs.recover.Goals as goal

pub returns-in_err-ensure : goal.returns-in_err-ensure
returns-in_err-ensure c =
    let f = c.in_err-ensure.ensures in
    handed_on _ _ c.from_residual.ensures.1 f.refused
    (recover_unlisted _ _ c.requires.e_value c.requires.op_value (sym (f.passed ∙ c.recover_fields.ensures)))

pub returns-in_err-ensure-2 : goal.returns-in_err-ensure-2
returns-in_err-ensure-2 c =
    let f = c.in_err-ensure-2.ensures in
    let listed = sym (c.in_ok-ensure.ensures.passed ∙ c.recover_fields.ensures) in
    handed_on _ _ c.from_residual-in_err-ensure-2.ensures.1 f.refused
    (recover_negative _ _ c.requires.e_value c.requires.op_value listed (ltb-false _ _ (sym f.passed)))

pub returns-in_err-ensure-3 : goal.returns-in_err-ensure-3
returns-in_err-ensure-3 c =
    let f = c.in_err-ensure-3.ensures in
    let listed = sym (c.in_ok-ensure.ensures.passed ∙ c.recover_fields.ensures) in
    let reached = ltb-false _ _ (sym f.passed) in
    handed_on _ _ c.from_residual-in_err-ensure-3.ensures.1 f.refused
    (recover_at_the_end _ _ c.requires.e_value c.requires.op_value listed (rw c.seconds_since.ensures at reached))

pub returns : goal.returns
returns c =
    let listed = sym (c.in_ok-ensure.ensures.passed ∙ c.recover_fields.ensures) in
    let positive = ltb-true _ _ (sym c.in_ok-ensure-2.ensures.passed) in
    let below = ltb-true _ _ (sym c.in_ok-ensure-3.ensures.passed) in
    rw (c.change_to.ensures, c.time_words-time.ensures, c.seconds_since.ensures)
    (recover_gives _ _ c.requires.e_value c.requires.op_value listed positive (rw c.seconds_since.ensures at below))
