-- Interrupt words. Document 01, "Interrupt words"; sheet 000, 7.2.18 to 7.2.20.
use Rattle.std.specs.Prelude.{ℕ, ◌+◌, ◌/◌, ◌%◌, ◌^◌, List, [], ◌∷◌, Bool, false, ◌&&◌, ◌||◌, cond, eqb, leb, ltb}
use Rattle.model.specs.Tests.{every_below}

-- the one table: the bit position of each source, in the order TAC, P1EC, P1SC, P2EC, P2SC, TS1_NE, TS1_OF, TS2_NE,
-- TS2_OF, TS3_NE, TS3_OF (the sheet's P1EC row says PEG2; document 01 reads PEG1)
abbrev pub positions : List ℕ
positions = 0 ∷ 1 ∷ 2 ∷ 4 ∷ 5 ∷ 8 ∷ 9 ∷ 10 ∷ 11 ∷ 12 ∷ 13 ∷ []

-- bit k of a word
abbrev pub bit : ℕ → ℕ → ℕ
bit k word = word / 2 ^ k % 2

abbrev pub has_bit : ℕ → ℕ → Bool
has_bit k word = eqb (bit k word) 1

-- the word with bit k set
unfoldable pub with_bit : ℕ → ℕ → ℕ
with_bit k word = cond (has_bit k word) word (word + 2 ^ k)

-- the word with the bit of each source set whose event came; positions and events go in step, in the table's order
unfoldable pub latch : List ℕ → List Bool → ℕ → ℕ
latch [] events word = word
latch (k ∷ ks) [] word = word
latch (k ∷ ks) (event ∷ events) word = latch ks events (cond event (with_bit k word) word)

-- some bit of the table is set in both words
unfoldable pub any_both : List ℕ → ℕ → ℕ → Bool
any_both [] latched enabled = false
any_both (k ∷ ks) latched enabled = has_bit k latched && has_bit k enabled || any_both ks latched enabled

-- what a read of the latched bits returns: the bits, and bit 14 where one of them is enabled
unfoldable pub interrupt_word : ℕ → ℕ → ℕ
interrupt_word latched enabled = latched + cond (any_both positions latched enabled) (2 ^ 14) 0

-- the real-time status bits 9, 8, 7: timestamp FIFOs 3, 2, 1 not empty
unfoldable pub status_word : Bool → Bool → Bool → ℕ
status_word empty1 empty2 empty3 = cond empty3 0 (2 ^ 9) + cond empty2 0 (2 ^ 8) + cond empty1 0 (2 ^ 7)

-- a 16-bit word has only bits of the mask
unfoldable pub only_bits : ℕ → ℕ → Bool
only_bits mask word = ltb word (2 ^ 16) && every_below 16 (λ k. leb (bit k word) (bit k mask))

-- the bits that can be latched, and those that can be enabled (P1FNF 3 and P2FNF 6 too)
abbrev pub latched_mask : ℕ
latched_mask = 0x3F37

abbrev pub enabled_mask : ℕ
enabled_mask = 0x3F7F
