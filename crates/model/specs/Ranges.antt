-- The ranges of the record: number 4. Document 01, "Where each command is checked", below the table; the waiting
-- adjustment, document 02, A.4.
use Rattle.std.specs.Prelude.{ℕ, ◌^◌, List, [], ◌∷◌, Bool, ◌&&◌, ◌||◌, not, cond, eqb, leb, ltb}
use Rattle.model.specs.declared.Clock.{Clock}
use Rattle.model.specs.declared.Adjustment.{Adjustment}
use Rattle.model.specs.declared.Steering.{Steering}
use Rattle.model.specs.declared.Timestamp.{Timestamp}
use Rattle.model.specs.declared.Fifo.{Fifo}
use Rattle.model.specs.declared.Generator.{Generator}
use Rattle.model.specs.declared.Interrupts.{Interrupts}
use Rattle.model.specs.declared.Words.{Words}
use Rattle.model.specs.declared.Engine.{Engine}
use Rattle.model.specs.Units.{ns_per_second}
use Rattle.model.specs.Tests.{every, every_below}
use Rattle.model.specs.Clock.{shown}
use Rattle.model.specs.Fifo.{entry}
use Rattle.model.specs.Generator.{is_before, is_running}
use Rattle.model.specs.Interrupts.{only_bits, latched_mask, enabled_mask}

abbrev pub seconds_ok : ℕ → Bool
seconds_ok s = ltb s (2 ^ 48)

abbrev pub nanoseconds_ok : ℕ → Bool
nanoseconds_ok n = ltb n ns_per_second

abbrev pub clock_tests : Clock → List Bool
clock_tests k =
    seconds_ok k.seconds ∷ nanoseconds_ok k.nanoseconds ∷ ltb k.fraction 256 ∷ ltb k.remainder (2 ^ 24) ∷ []

unfoldable pub clock_ok : Clock → Bool
clock_ok k = every (clock_tests k)

-- PERIOD or the PER_ADJ of an adjustment: 40 bits, with NS not 0
abbrev pub amount_ok : ℕ → Bool
amount_ok x = leb (2 ^ 32) x && ltb x (2 ^ 40)

-- none and zero, or with at most 2^24 - 1 cycles left
unfoldable pub adjustment_ok : Adjustment → Bool
adjustment_ok j =
    cond (eqb j.cycles 0) (eqb j.amount 0) (amount_ok j.amount && ltb j.cycles (2 ^ 24))

-- none waits while none runs
abbrev pub waits_behind : Steering → Bool
waits_behind s = eqb s.waiting.cycles 0 || not (eqb s.adjustment.cycles 0)

-- the waiting adjustment is "checked like the running one", and 4 "is also given if one waits while none runs"
-- (document 02, A.4)
abbrev pub steering_tests : Steering → List Bool
steering_tests s =
    amount_ok s.period ∷ adjustment_ok s.adjustment ∷ adjustment_ok s.waiting ∷ waits_behind s ∷ []

unfoldable pub steering_ok : Steering → Bool
steering_ok s = every (steering_tests s)

unfoldable pub timestamp_ok : Timestamp → Bool
timestamp_ok t = every (seconds_ok t.seconds ∷ nanoseconds_ok t.nanoseconds ∷ leb t.rising 1 ∷ [])

abbrev pub timestamp_zero : Timestamp → Bool
timestamp_zero t = every (eqb t.seconds 0 ∷ eqb t.nanoseconds 0 ∷ eqb t.rising 0 ∷ [])

-- place i holds a timestamp where it is used, and zero where it is not
unfoldable pub place_ok : Fifo → ℕ → Bool
place_ok f i = cond (ltb i f.count) (timestamp_ok (entry f i)) (timestamp_zero (entry f i))

unfoldable pub fifo_ok : Fifo → Bool
fifo_ok f = leb f.count 8 && every_below 8 (place_ok f)

-- op 3's limits, and the pending instant
abbrev pub running_tests : Generator → List Bool
running_tests g =
    seconds_ok g.pending.seconds
    ∷ nanoseconds_ok g.pending.nanoseconds
    ∷ ltb g.pending.remainder g.denominator
    ∷ leb 256 g.whole
    ∷ leb g.whole 999999999
    ∷ ltb g.numerator g.denominator
    ∷ ltb g.denominator (2 ^ 32)
    ∷ ltb g.left (2 ^ 32)
    ∷ leb g.direction 1
    ∷ leb g.mark 1
    ∷ []

abbrev pub idle_tests : Generator → List Bool
idle_tests g =
    eqb g.pending.seconds 0
    ∷ eqb g.pending.nanoseconds 0
    ∷ eqb g.pending.remainder 0
    ∷ eqb g.whole 0
    ∷ eqb g.numerator 0
    ∷ eqb g.denominator 0
    ∷ eqb g.direction 0
    ∷ eqb g.mark 0
    ∷ []

-- idle and zero, or running with a pending instant that is not before the time shown
unfoldable pub generator_ok : Generator → ℕ → Bool
generator_ok g now = cond (is_running g) (every (running_tests g) && not (is_before g now)) (every (idle_tests g))

unfoldable pub interrupts_ok : Interrupts → Bool
interrupts_ok i = only_bits latched_mask i.latched && only_bits enabled_mask i.enabled

abbrev pub word_ok : ℕ → Bool
word_ok w = ltb w (2 ^ 16)

abbrev pub word_tests : Words → List Bool
word_tests w = word_ok w.w1 ∷ word_ok w.w2 ∷ word_ok w.w3 ∷ word_ok w.w4 ∷ word_ok w.w5 ∷ []

unfoldable pub words_ok : Words → Bool
words_ok w = every (word_tests w)

abbrev pub engine_tests : Engine → List Bool
engine_tests e =
    clock_ok e.clock
    ∷ steering_ok e.steering
    ∷ fifo_ok e.fifo1
    ∷ fifo_ok e.fifo2
    ∷ fifo_ok e.fifo3
    ∷ generator_ok e.generator1 (shown e.clock)
    ∷ generator_ok e.generator2 (shown e.clock)
    ∷ interrupts_ok e.interrupts
    ∷ words_ok e.words
    ∷ []

unfoldable pub valid : Engine → Bool
valid e = every (engine_tests e)
