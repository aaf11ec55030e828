-- The five words. Document 01, "The five words"; sheet 000, Tables 7-3 (reads) and 7-4 (writes).
use Rattle.std.specs.Prelude.{ℕ, ◌+◌, ◌*◌, ◌/◌, ◌%◌, ◌^◌}
use Rattle.model.specs.declared.Words.{Words}

-- five words, or the five values of an outcome
abbrev pub five : ℕ → ℕ → ℕ → ℕ → ℕ → Words
five w1 w2 w3 w4 w5 = record { w1 = w1; w2 = w2; w3 = w3; w4 = w4; w5 = w5 }

abbrev pub no_words : Words
no_words = five 0 0 0 0 0

-- write 0, TIME: sec 15:0 | 31:16 | 47:32 | NS 15:0 | NS 29:16
unfoldable pub seconds_in : Words → ℕ
seconds_in w = w.w3 * 2 ^ 32 + w.w2 * 2 ^ 16 + w.w1

unfoldable pub nanoseconds_in : Words → ℕ
nanoseconds_in w = w.w5 % 2 ^ 14 * 2 ^ 16 + w.w4

-- word 5, bits 15:14, which a TIME write leaves 0
unfoldable pub above_nanoseconds : Words → ℕ
above_nanoseconds w = w.w5 / 2 ^ 14

-- writes 1 and 2, PERIOD and adjust: - | .. | FRAC 7:0, .. | FRAC 23:8 | NS 7:0, FRAC 31:24
unfoldable pub whole_in : Words → ℕ
whole_in w = w.w5 / 2 ^ 8

unfoldable pub frac_in : Words → ℕ
frac_in w = w.w5 % 2 ^ 8 * 2 ^ 24 + w.w4 * 2 ^ 8 + w.w3 / 2 ^ 8

-- NS above FRAC: an amount in 2^-32 ns
unfoldable pub amount_in : Words → ℕ
amount_in w = whole_in w * 2 ^ 32 + frac_in w

-- write 1, PERIOD: the low byte of word 3, which is 0x00
unfoldable pub below_frac : Words → ℕ
below_frac w = w.w3 % 2 ^ 8

-- write 2, adjust: - | COUNT 15:0 | .., COUNT 23:16 | ..
unfoldable pub count_in : Words → ℕ
count_in w = w.w3 % 2 ^ 8 * 2 ^ 16 + w.w2

-- reads: sec 15:0 | 31:16 | 47:32 | NS 15:0 | EDGE, 0, NS 29:16, where EDGE is 0 for TIME (read 0)
unfoldable pub time_words : ℕ → ℕ → ℕ → Words
time_words seconds nanoseconds edge =
    five (seconds % 2 ^ 16) (seconds / 2 ^ 16 % 2 ^ 16) (seconds / 2 ^ 32 % 2 ^ 16) (nanoseconds % 2 ^ 16)
    (edge * 2 ^ 15 + nanoseconds / 2 ^ 16 % 2 ^ 14)
