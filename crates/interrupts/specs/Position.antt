-- The bit position of a source by its place in the table, and a word with its bit set. Document 01, "Interrupt words".
use Rattle.std.specs.Prelude.{◌≡◌, Bool, cond, ℕ, ◌<◌, get_or}
use Rattle.model.specs.Interrupts.{positions, with_bit}
use Rattle.interrupts.specs.declared.Source.{Source}
use Rattle.interrupts.specs.declared.Source.TheVariants.{Tac, P1Ec, P1Sc, P2Ec, P2Sc, Ts1Ne, Ts1Of, Ts2Ne, Ts2Of}
use Rattle.interrupts.specs.declared.Source.TheVariants.{Ts3Ne, Ts3Of}

-- the place of a source in the table
abbrev pub place_of : Source → ℕ
place_of Tac = 0
place_of P1Ec = 1
place_of P1Sc = 2
place_of P2Ec = 3
place_of P2Sc = 4
place_of Ts1Ne = 5
place_of Ts1Of = 6
place_of Ts2Ne = 7
place_of Ts2Of = 8
place_of Ts3Ne = 9
place_of Ts3Of = 10

abbrev pub position_of : Source → ℕ
position_of source = get_or positions (place_of source) 0

-- a position that the table gives, below the width of a word
pub record PositionOf (source : Source) (r : ℕ) : Type 0 where
  pub is : r ≡ position_of source
  pub low : r < 16

-- the word with the bit of a source set where its event came
unfoldable pub latch_one : Source → Bool → ℕ → ℕ
latch_one source came word = cond came (with_bit (position_of source) word) word

-- the same for two sources
unfoldable pub latch_two : Source → Bool → Source → Bool → ℕ → ℕ
latch_two one one_came two two_came word = latch_one two two_came (latch_one one one_came word)
