-- Ops 11 and 12: the departure time of a Delay_Req in its correctionField, and back out of it. Document 02, A.7; sheet
-- 000, 6.13.7.3.2. The correctionField is a signed 64-bit count of 2^-16 ns (IEEE 1588-2008), given and returned as its
-- 64-bit pattern.
use Rattle.std.specs.Prelude.{ℕ, suc, ◌+◌, ◌*◌, ◌-◌, ◌/◌, ◌%◌, ◌^◌, Bool, ◌&&◌, not, cond, leb, ltb, ℤ, pos, negsuc}
use Rattle.std.specs.Prelude.{◌+ℤ◌, ◌-ℤ◌}
use Rattle.model.specs.declared.Engine.{Engine}
use Rattle.model.specs.declared.Command.{Command}
use Rattle.model.specs.declared.Clock.{Clock}
use Rattle.model.specs.declared.Outcome.{Outcome}
use Rattle.model.specs.declared.Words.{Words}
use Rattle.model.specs.Units.{ns_per_second}
use Rattle.model.specs.Words.{five, time_words}
use Rattle.model.specs.Outcome.{accepted}

-- ---- signed numbers of 64 bits

-- the number that a pattern stands for: the sign bit counts -2^63, so a pattern that has it stands for 2^64 less
abbrev pub signed : ℕ → ℤ
signed p = cond (ltb p (2 ^ 63)) (pos p) (pos p -ℤ pos (2 ^ 64))

-- a number from -2^63 to 2^63 - 1; negsuc n is -(n + 1)
abbrev pub fits64 : ℤ → Bool
fits64 (pos n) = ltb n (2 ^ 63)
fits64 (negsuc n) = ltb n (2 ^ 63)

-- and its pattern
abbrev pub pattern_of : ℤ → ℕ
pattern_of (pos n) = n
pattern_of (negsuc n) = 2 ^ 64 - suc n

-- ---- op 11

-- "the low four bits of the shown seconds turned into ns, and the shown ns", in 2^-16 ns
abbrev pub departure : Clock → ℕ
departure k = (k.seconds % 2 ^ 4 * ns_per_second + k.nanoseconds) * 2 ^ 16

-- the field with it added
abbrev pub field_after : Clock → ℕ → ℤ
field_after k field = signed field +ℤ pos (departure k)

-- a pattern as "four words, lowest first"
abbrev pub four_words : ℕ → Words
four_words p = five (p % 2 ^ 16) (p / 2 ^ 16 % 2 ^ 16) (p / 2 ^ 32 % 2 ^ 16) (p / 2 ^ 48 % 2 ^ 16) 0

-- nothing but the values: the record is unchanged
unfoldable pub departed : Engine → ℕ → Outcome
departed e field = accepted (four_words (pattern_of (field_after e.clock field))) e

-- ---- op 12

-- a field that is not negative is its own count: it "drops the field's part below 1 ns, splits off its seconds"
abbrev pub is_negative : ℕ → Bool
is_negative field = leb (2 ^ 63) field

abbrev pub field_seconds : ℕ → ℕ
field_seconds field = field / 2 ^ 16 / ns_per_second

abbrev pub field_nanoseconds : ℕ → ℕ
field_nanoseconds field = field / 2 ^ 16 % ns_per_second

-- "subtracts the low four bits of a, adds 16 if that is negative"
abbrev pub seconds_since : (a seconds : ℕ) → ℕ
seconds_since a seconds =
    cond (ltb seconds (a % 2 ^ 4)) (seconds + 16 - a % 2 ^ 4) (seconds - a % 2 ^ 4)

-- "and adds the result to a"
abbrev pub seconds_of : (a field : ℕ) → ℕ
seconds_of a field = a + seconds_since a (field_seconds field)

-- "It returns words laid out as TIME"; the record is unchanged
unfoldable pub recovered : Engine → (a field : ℕ) → Outcome
recovered e a field = accepted (time_words (seconds_of a field) (field_nanoseconds field) 0) e

-- ---- what numbers 16 and 17 ask

-- the sum stays within 64 signed bits
unfoldable pub stays_signed : Clock → ℕ → Bool
stays_signed k field = fits64 (field_after k field)

-- the field is not negative, and the seconds do not reach 2^48
unfoldable pub is_time : (a field : ℕ) → Bool
is_time a field = not (is_negative field) && ltb (seconds_of a field) (2 ^ 48)

-- ---- as commands, and the number that four words write, for the theorem about them

abbrev pub depart_line : ℕ → Command
depart_line field = record { op = 11; a = field; b = 0; c = 0; d = 0; e = 0; f = 0; g = 0; h = 0 }

abbrev pub recover_line : (a field : ℕ) → Command
recover_line a field = record { op = 12; a = a; b = field; c = 0; d = 0; e = 0; f = 0; g = 0; h = 0 }

abbrev pub field_in : Words → ℕ
field_in w = w.w1 + w.w2 * 2 ^ 16 + w.w3 * 2 ^ 32 + w.w4 * 2 ^ 48
