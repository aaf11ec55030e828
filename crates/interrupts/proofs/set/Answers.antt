-- The position is below 64, so the shift loses nothing: the word is or-ed with 2 ^ position.
use Rattle.std.proofs.Common.{◌<◌, arith}
use Rattle.model.proofs.Laws.Bits.{with_bit_or}
use Rattle.bits.proofs.Masks.{one_shifted}
use Rattle.interrupts.proofs.set.Goals as goal

pub returns : goal.returns
returns c =
    let place = c.position.ensures in
    let fits : c.position.result < 64 = omega (arith, place.low) in
    rw (one_shifted _ fits, place.is, with_bit_or)
