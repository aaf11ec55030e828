-- The field check, then number 16; what is added is below 2^50 on a valid record.
use Rattle.std.proofs.Common.{sym, ◌∙◌}
use Rattle.model.specs.Departure.{stays_signed}
use Rattle.model.proofs.Laws.Departures.{clock_range, departure_low}
use Rattle.change.proofs.Given.{handed_on}
use Rattle.departure.proofs.Checked.{depart_unlisted, depart_left, depart_gives}
use Rattle.departure.proofs.depart.Goals as goal

pub returns-in_err-ensure : goal.returns-in_err-ensure
returns-in_err-ensure c =
    let f = c.in_err-ensure.ensures in
    handed_on _ _ c.from_residual.ensures.1 f.refused
    (depart_unlisted _ _ c.requires.e_value c.requires.op_value (sym (f.passed ∙ c.depart_fields.ensures)))

pub departure-added-requires : goal.departure-added-requires
departure-added-requires c = clock_range _ c.requires.e_value

pub stays_signed-requires : goal.stays_signed-requires
stays_signed-requires c =
    rw c.departure-added.ensures (departure_low _ (clock_range _ c.requires.e_value))

pub returns-in_err-ensure-2 : goal.returns-in_err-ensure-2
unfolding stays_signed
returns-in_err-ensure-2 c =
    let f = c.in_err-ensure-2.ensures in
    let listed = sym (c.in_ok-ensure.ensures.passed ∙ c.depart_fields.ensures) in
    let stays = sym (f.passed ∙ c.stays_signed.ensures) in
    handed_on _ _ c.from_residual-in_err-ensure-2.ensures.1 f.refused
    (depart_left _ _ c.requires.e_value c.requires.op_value listed (rw c.departure-added.ensures at stays))

pub returns : goal.returns
unfolding stays_signed
returns c =
    let listed = sym (c.in_ok-ensure.ensures.passed ∙ c.depart_fields.ensures) in
    let stays = sym (c.in_ok-ensure-2.ensures.passed ∙ c.stays_signed.ensures) in
    rw (c.change_to.ensures, c.four_words-words.ensures, c.departure-added.ensures)
    (depart_gives _ _ c.requires.e_value c.requires.op_value listed (rw c.departure-added.ensures at stays))
