-- The three bits differ, so or-ing them adds them: eight cases.
use Rattle.std.proofs.Common.{◌≡◌, refl, ℕ, ◌*◌, ◌%◌, ◌^◌, Bool, true, false, not, bit_or}
use mir.Val.{bool_byte}
use Rattle.model.specs.Interrupts.{status_word}
use Rattle.interrupts.proofs.status_word.Goals as goal

-- a bit where the FIFO is not empty, shifted within a word
abbrev shifted : Bool → ℕ → ℕ
shifted empty by = bool_byte (not empty) * 2 ^ by % 2 ^ 64

or_adds : (a b c : Bool) → bit_or (bit_or (shifted c 9) (shifted b 8)) (shifted a 7) ≡ status_word a b c
unfolding status_word
or_adds true true true = refl
or_adds true true false = refl
or_adds true false true = refl
or_adds true false false = refl
or_adds false true true = refl
or_adds false true false = refl
or_adds false false true = refl
or_adds false false false = refl

pub returns : goal.returns
returns c = rw (c.from-3.ensures, c.from-2.ensures, c.from.ensures) (or_adds c.args.empty1 c.args.empty2 c.args.empty3)
