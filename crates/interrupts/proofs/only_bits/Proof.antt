-- A word that changes nothing when or-ed into a mask is one with only bits of the mask.
use Rattle.interrupts.proofs.Masks.{or_only_bits}
use Rattle.interrupts.proofs.only_bits.Statement.{statement}
use Rattle.interrupts.proofs.only_bits.Tie as tie

returns : tie.Need-returns
returns c = or_only_bits c.args.mask c.args.word c.requires

pub only_bits_spec : {M : Type 1} → statement M
only_bits_spec = tie.close (tie.spec returns)
