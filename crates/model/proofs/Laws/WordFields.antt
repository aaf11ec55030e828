-- The word layouts round-trip: each field has bits of its own, so that splitting undoes joining and joining
-- splitting.
use Prim.Native.Nat.{ℕ, ◌+◌, ◌*◌, ◌/◌, ◌%◌, ◌<◌, ◌≤◌, ◌^◌}
use mathlib.Core.Path.{◌≡◌}
use native.Mathlib.Omega.{arith}
use Rattle.model.specs.declared.Words.{Words}
use Rattle.model.specs.Words
use Rattle.model.specs.Bounds.{WordsRange, AmountRange}

-- reads: the words of a time or timestamp hold its seconds, nanoseconds and edge
pub record TimeIn (s n b : ℕ) (w : Words) : Type 0 where
  pub seconds : Words.seconds_in w ≡ s
  pub nanoseconds : Words.nanoseconds_in w ≡ n
  pub edge : w.w5 / 2 ^ 15 ≡ b

pub time_words_hold : (s n b : ℕ) → s < 2 ^ 48 → n < 2 ^ 30 → b ≤ 1 → TimeIn s n b (Words.time_words s n b)
unfolding Words.seconds_in Words.nanoseconds_in Words.time_words
time_words_hold s n b hs hn hb = omega arith

pub time_words_in : (s n b : ℕ) → b ≤ 1 → WordsRange (Words.time_words s n b)
unfolding Words.time_words
time_words_in s n b hb = omega arith

-- words are equal place by place
record SameWords (v w : Words) : Type 0 where
  w1 : v.w1 ≡ w.w1
  w2 : v.w2 ≡ w.w2
  w3 : v.w3 ≡ w.w3
  w4 : v.w4 ≡ w.w4
  w5 : v.w5 ≡ w.w5

same_words : {v w : Words} → SameWords v w → v ≡ w
same_words s = λ i. record { w1 = s.w1 i; w2 = s.w2 i; w3 = s.w3 i; w4 = s.w4 i; w5 = s.w5 i }

-- writes: words that a TIME write accepts are the words of the time that they hold
pub words_of_time : (w : Words) → WordsRange w → Words.above_nanoseconds w ≡ 0
    → Words.time_words (Words.seconds_in w) (Words.nanoseconds_in w) 0 ≡ w
unfolding Words.seconds_in Words.nanoseconds_in Words.time_words Words.above_nanoseconds
words_of_time w h z = same_words (omega arith)

pub seconds_in_low : (w : Words) → WordsRange w → Words.seconds_in w < 2 ^ 48
unfolding Words.seconds_in
seconds_in_low w h = omega arith

-- an amount whose NS is not 0 is in range
pub amount_words_in : (w : Words) → WordsRange w → 1 ≤ Words.whole_in w → AmountRange (Words.amount_in w)
unfolding Words.amount_in Words.whole_in Words.frac_in
amount_words_in w h n = omega arith

pub count_low : (w : Words) → WordsRange w → Words.count_in w < 2 ^ 24
unfolding Words.count_in
count_low w h = omega arith

-- the words that write an amount and a count, by Table 7-4. Word 1 is ignored, whatever it is; a PERIOD write
-- ignores word 2 also, and asks that the byte of COUNT 23:16 is 0x00
unfoldable pub amount_words : ℕ → ℕ → ℕ → Words
amount_words ignored amount count =
    Words.five ignored (count % 2 ^ 16) (amount % 2 ^ 8 * 2 ^ 8 + count / 2 ^ 16 % 2 ^ 8) (amount / 2 ^ 8 % 2 ^ 16)
    (amount / 2 ^ 24 % 2 ^ 16)

pub record AmountHeld (x n : ℕ) (w : Words) : Type 0 where
  pub amount : Words.amount_in w ≡ x
  pub whole : Words.whole_in w ≡ x / 2 ^ 32
  pub count : Words.count_in w ≡ n
  pub byte : Words.below_frac w ≡ n / 2 ^ 16

pub amount_words_hold : (ignored amount count : ℕ) → amount < 2 ^ 40 → count < 2 ^ 24
    → AmountHeld amount count (amount_words ignored amount count)
unfolding Words.amount_in Words.whole_in Words.frac_in Words.count_in Words.below_frac amount_words
amount_words_hold ignored amount count ha hc = omega arith

pub words_of_amount : (w : Words) → WordsRange w → amount_words w.w1 (Words.amount_in w) (Words.count_in w) ≡ w
unfolding Words.amount_in Words.whole_in Words.frac_in Words.count_in amount_words
words_of_amount w h = same_words (omega arith)
