-- Number 4: records at each limit of its ranges, and one step beyond it, with the answer that op 8, which asks nothing
-- else, gets on them. Document 01, "Where each command is checked", below the table; the waiting adjustment, document
-- 02, A.4.
use Prim.Native.Nat.{ℕ, ◌+◌, ◌*◌, ◌-◌, ◌^◌}
use mathlib.Core.List.{List, [], ◌∷◌, ◌++◌, map}
use lib.ListN.{set, replicate}
use Rattle.model.specs.declared.Adjustment.{Adjustment}
use Rattle.model.specs.declared.Engine.{Engine}
use Rattle.model.specs.declared.Fifo.{Fifo}
use Rattle.model.specs.declared.Generator.{Generator}
use Rattle.model.specs.declared.Timestamp.{Timestamp}
use Rattle.model.specs.Units.{ns_per_second}
use Rattle.model.specs.Words.{five}
use Rattle.model.specs.Clock.{no_adjustment}
use Rattle.model.specs.Fifo.{no_timestamp, empty_fifo}
use Rattle.model.specs.Generator.{idle_generator}
use Rattle.model.specs.Record.{power_on, with_clock, with_steering, with_fifos, with_generators, with_interrupts}
use Rattle.model.specs.Record.{with_words}
use Rattle.model.specs.Execute.{execute}
use Rattle.model.proofs.Examples.Runs.{Example, line}

-- the answers on some records
unfoldable pub answers_on : List Engine → List ℕ
answers_on es = map (λ e. (execute e (line 8 0 0 0 0 0)).answer) es

abbrev on_each : List Engine → List ℕ → Example
on_each es stated = record { found = answers_on es; stated = stated }

-- power-on with one part replaced
abbrev clock : ℕ → ℕ → ℕ → ℕ → Engine
clock seconds nanoseconds fraction remainder =
    with_clock power_on
    (record { seconds = seconds; nanoseconds = nanoseconds; fraction = fraction; remainder = remainder })

abbrev adjustment : ℕ → ℕ → Adjustment
adjustment amount cycles = record { amount = amount; cycles = cycles }

abbrev steering : ℕ → Adjustment → Adjustment → Engine
steering period running waiting =
    with_steering power_on (record { period = period; adjustment = running; waiting = waiting })

-- PERIOD at 8 ns, and an adjustment that runs, or waits behind one of one cycle
abbrev running : Adjustment → Engine
running j = steering (8 * 2 ^ 32) j no_adjustment

abbrev waiting : Adjustment → Engine
waiting j = steering (8 * 2 ^ 32) (adjustment (2 ^ 32) 1) j

abbrev stamp : ℕ → ℕ → ℕ → Timestamp
stamp seconds nanoseconds rising = record { seconds = seconds; nanoseconds = nanoseconds; rising = rising }

-- a FIFO of so many entries: the last timestamp that there is in each place that is used, but for one place
abbrev fifo_with : ℕ → ℕ → Timestamp → Fifo
fifo_with count place t = record {
  entries =
      set (
      replicate count (stamp (2 ^ 48 - 1) 999999999 1) ++ replicate (8 - count) no_timestamp
      ) place t;
  count = count;
}

abbrev fifo1 : Fifo → Engine
fifo1 f = with_fifos power_on f empty_fifo empty_fifo

abbrev fifo2 : Fifo → Engine
fifo2 f = with_fifos power_on empty_fifo f empty_fifo

abbrev fifo3 : Fifo → Engine
fifo3 f = with_fifos power_on empty_fifo empty_fifo f

-- a generator with all that number 4 looks at
abbrev generator : ℕ → ℕ → ℕ → ℕ → ℕ → ℕ → ℕ → ℕ → ℕ → Generator
generator seconds nanoseconds remainder whole numerator denominator left direction mark = record {
  pending = record { seconds = seconds; nanoseconds = nanoseconds; remainder = remainder };
  whole = whole;
  numerator = numerator;
  denominator = denominator;
  left = left;
  direction = direction;
  mark = mark;
}

abbrev generator1 : Generator → Engine
generator1 g = with_generators power_on g idle_generator

abbrev generator2 : Generator → Engine
generator2 g = with_generators power_on idle_generator g

abbrev interrupts : ℕ → ℕ → Engine
interrupts latched enabled = with_interrupts power_on (record { latched = latched; enabled = enabled })

abbrev words : ℕ → ℕ → ℕ → ℕ → ℕ → Engine
words w1 w2 w3 w4 w5 = with_words power_on (five w1 w2 w3 w4 w5)

-- an adjustment, where one may stand: PER_ADJ as PERIOD, at most 2^24 - 1 cycles; zero where there is none
abbrev adjustment_limits : (Adjustment → Engine) → List Example
adjustment_limits at =
    on_each (
    at (adjustment (2 ^ 32) 1) ∷ at (adjustment (2 ^ 40 - 1) (2 ^ 24 - 1)) ∷ at no_adjustment
    ∷ at (adjustment (2 ^ 32 - 1) 1) ∷ at (adjustment (2 ^ 40) 1) ∷ at (adjustment (2 ^ 32) (2 ^ 24))
    ∷ at (adjustment 1 0)
    ∷ []
    ) (0 ∷ 0 ∷ 0 ∷ 4 ∷ 4 ∷ 4 ∷ 4 ∷ [])
    ∷ []

-- a timestamp in each place of a FIFO with so many entries
abbrev in_each_place : (Fifo → Engine) → ℕ → Timestamp → Example
in_each_place at count t =
    on_each (map (λ place. at (fifo_with count place t)) (0 ∷ 1 ∷ 2 ∷ 3 ∷ 4 ∷ 5 ∷ 6 ∷ 7 ∷ [])) (replicate 8 4)

-- a FIFO: the count; a timestamp in each place that is used, and zero in each that is not
abbrev fifo_limits : (Fifo → Engine) → List Example
fifo_limits at =
    on_each (
    at (fifo_with 8 0 no_timestamp) ∷ at (fifo_with 7 7 no_timestamp) ∷ at (fifo_with 7 7 (stamp 0 0 1))
    ∷ at (record { entries = (fifo_with 8 0 no_timestamp).entries; count = 9 })
    ∷ []
    ) (0 ∷ 0 ∷ 4 ∷ 4 ∷ [])
    ∷ in_each_place at 8 (stamp (2 ^ 48) 0 0) ∷ in_each_place at 8 (stamp 0 ns_per_second 0)
    ∷ in_each_place at 8 (stamp 0 0 2)
    ∷ in_each_place at 0 (stamp 1 0 0) ∷ in_each_place at 0 (stamp 0 1 0) ∷ in_each_place at 0 (stamp 0 0 1)
    ∷ []

-- a generator whose instant is r/d ns, where the time shown is 1/256 ns
abbrev ahead : (Generator → Engine) → ℕ → ℕ → Engine
ahead at r d =
    with_clock (at (generator 0 0 r 256 0 d 1 0 0))
    (record { seconds = 0; nanoseconds = 0; fraction = 1; remainder = 0 })

-- a generator that runs: op 3's limits, lowest and highest; beyond them, field by field; its pending instant is not
-- before the time shown, 1/256 ns: 1/256 ns, 1/255, 1/257, 0; and one that is idle is zero
abbrev generator_limits : (Generator → Engine) → List Example
generator_limits at =
    on_each (
    at (generator 0 0 0 256 0 1 1 0 0)
    ∷ at (generator (2 ^ 48 - 1) 999999999 (2 ^ 32 - 2) 999999999 (2 ^ 32 - 2) (2 ^ 32 - 1) (2 ^ 32 - 1) 1 1)
    ∷ []
    ) (0 ∷ 0 ∷ [])
    ∷ on_each (
    at (generator (2 ^ 48) 0 0 256 0 1 1 0 0) ∷ at (generator 0 ns_per_second 0 256 0 1 1 0 0)
    ∷ at (generator 0 0 1 256 0 1 1 0 0) ∷ at (generator 0 0 0 255 0 1 1 0 0)
    ∷ at (generator 0 0 0 ns_per_second 0 1 1 0 0) ∷ at (generator 0 0 0 256 1 1 1 0 0)
    ∷ at (generator 0 0 0 256 0 0 1 0 0) ∷ at (generator 0 0 0 256 0 (2 ^ 32) 1 0 0)
    ∷ at (generator 0 0 0 256 0 1 (2 ^ 32) 0 0) ∷ at (generator 0 0 0 256 0 1 1 2 0)
    ∷ at (generator 0 0 0 256 0 1 1 0 2)
    ∷ []
    ) (replicate 11 4)
    ∷ on_each (ahead at 1 256 ∷ ahead at 1 255 ∷ ahead at 1 257 ∷ ahead at 0 1 ∷ []) (0 ∷ 0 ∷ 4 ∷ 4 ∷ [])
    ∷ on_each (
    at (generator 1 0 0 0 0 0 0 0 0) ∷ at (generator 0 1 0 0 0 0 0 0 0) ∷ at (generator 0 0 1 0 0 0 0 0 0)
    ∷ at (generator 0 0 0 1 0 0 0 0 0) ∷ at (generator 0 0 0 0 1 0 0 0 0) ∷ at (generator 0 0 0 0 0 1 0 0 0)
    ∷ at (generator 0 0 0 0 0 0 0 1 0) ∷ at (generator 0 0 0 0 0 0 0 0 1)
    ∷ []
    ) (replicate 8 4)
    ∷ []

-- clock, PERIOD, the order of the two adjustments, interrupt bits and words
abbrev part_limits : List Example
part_limits =
    on_each (
    clock (2 ^ 48 - 1) 999999999 255 (2 ^ 24 - 1)
    ∷ clock (2 ^ 48) 0 0 0 ∷ clock 0 ns_per_second 0 0 ∷ clock 0 0 256 0 ∷ clock 0 0 0 (2 ^ 24)
    ∷ []
    ) (0 ∷ 4 ∷ 4 ∷ 4 ∷ 4 ∷ [])
    -- PERIOD: NS not 0, 40 bits
    ∷ on_each (
    steering (2 ^ 32) no_adjustment no_adjustment ∷ steering (2 ^ 40 - 1) no_adjustment no_adjustment
    ∷ steering (2 ^ 32 - 1) no_adjustment no_adjustment ∷ steering (2 ^ 40) no_adjustment no_adjustment
    ∷ []
    ) (0 ∷ 0 ∷ 4 ∷ 4 ∷ [])
    -- an adjustment waits only behind one that runs
    ∷ on_each (steering (8 * 2 ^ 32) no_adjustment (adjustment (2 ^ 32) 1) ∷ []) (4 ∷ [])
    -- the masks 0x3F37 and 0x3F7F, and each bit outside them
    ∷ on_each (
    interrupts 0x3F37 0x3F7F
    ∷ interrupts (2 ^ 3) 0 ∷ interrupts (2 ^ 6) 0 ∷ interrupts (2 ^ 7) 0 ∷ interrupts (2 ^ 14) 0
    ∷ interrupts (2 ^ 15) 0 ∷ interrupts (2 ^ 16) 0 ∷ interrupts 0 (2 ^ 7) ∷ interrupts 0 (2 ^ 14)
    ∷ interrupts 0 (2 ^ 15) ∷ interrupts 0 (2 ^ 16)
    ∷ []
    ) (0 ∷ replicate 10 4)
    -- words of 16 bits
    ∷ on_each (
    words 65535 65535 65535 65535 65535
    ∷ words 65536 0 0 0 0 ∷ words 0 65536 0 0 0 ∷ words 0 0 65536 0 0 ∷ words 0 0 0 65536 0 ∷ words 0 0 0 0 65536
    ∷ []
    ) (0 ∷ replicate 5 4)
    ∷ []

-- every part in each of its places
unfoldable pub record_limits : List Example
record_limits =
    part_limits ++ adjustment_limits running ++ adjustment_limits waiting ++ fifo_limits fifo1 ++ fifo_limits fifo2
    ++ fifo_limits fifo3
    ++ generator_limits generator1
    ++ generator_limits generator2
