-- The clock, on totals, and its steering. Document 01, "The clock"; sheet 000, 6.13.1; document 02, A.4.
use Rattle.std.specs.Prelude.{ℕ, ◌+◌, ◌*◌, ◌-◌, ◌/◌, ◌%◌, ◌^◌, Bool, cond, eqb}
use Rattle.model.specs.declared.Clock.{Clock}
use Rattle.model.specs.declared.Adjustment.{Adjustment}
use Rattle.model.specs.declared.Steering.{Steering}
use Rattle.model.specs.Units.{ns_per_second}

-- the time shown, as a number of 1/256 ns
abbrev pub shown : Clock → ℕ
shown k = (k.seconds * ns_per_second + k.nanoseconds) * 256 + k.fraction

-- the exact time, remainder included, as a number of 2^-32 ns
abbrev pub exact : Clock → ℕ
exact k = shown k * 2 ^ 24 + k.remainder

-- the end of the last second, 2^48 s, in 1/256 ns
abbrev pub end_of_time : ℕ
end_of_time = 2 ^ 48 * ns_per_second * 256

-- the clock that shows t, with a remainder
abbrev pub clock_at : ℕ → ℕ → Clock
clock_at t remainder = record {
  seconds = t / 256 / ns_per_second;
  nanoseconds = t / 256 % ns_per_second;
  fraction = t % 256;
  remainder = remainder;
}

-- the clock at an exact time
unfoldable pub clock_at_exact : ℕ → Clock
clock_at_exact x = clock_at (x / 2 ^ 24) (x % 2 ^ 24)

-- the amount of a cycle, in 2^-32 ns: PER_ADJ while an adjustment has cycles left, else PERIOD
unfoldable pub cycle_amount : Steering → ℕ
cycle_amount s = cond (eqb s.adjustment.cycles 0) s.period s.adjustment.amount

-- "the step": what a tick adds to the time shown, in 1/256 ns
unfoldable pub step_by : Clock → ℕ → ℕ
step_by k amount = (k.remainder + amount) / 2 ^ 24

-- "the remainder" after a tick: what the step leaves over, in 2^-32 ns
unfoldable pub remainder_by : Clock → ℕ → ℕ
remainder_by k amount = (k.remainder + amount) % 2 ^ 24

-- one reference cycle
unfoldable pub ticked : Clock → ℕ → Clock
ticked k amount = clock_at (shown k + step_by k amount) (remainder_by k amount)

abbrev pub no_adjustment : Adjustment
no_adjustment = record { amount = 0; cycles = 0 }

-- an adjustment loses one cycle with each tick; its last sets TAC
abbrev pub one_less : Adjustment → Adjustment
one_less j = record { amount = j.amount; cycles = j.cycles - 1 }

unfoldable pub last_cycle : Adjustment → Bool
last_cycle j = eqb j.cycles 1

-- the waiting adjustment "becomes the running one in the tick that ends the other and steers from the tick after"
-- (document 02, A.4); where none waits, none runs then
abbrev pub taken_up : Steering → Steering
taken_up s = record { period = s.period; adjustment = s.waiting; waiting = no_adjustment }

-- the steering after a cycle; PERIOD stays
unfoldable pub steering_after : Steering → Steering
steering_after s =
    cond (last_cycle s.adjustment)
    (taken_up s)
    (record { period = s.period; adjustment = one_less s.adjustment; waiting = s.waiting })

-- the steering after an adjust write: it runs at once where none runs, and waits behind one that does (document 02,
-- A.4)
unfoldable pub adjusted_by : Steering → Adjustment → Steering
adjusted_by s j =
    cond (eqb s.adjustment.cycles 0)
    (record { period = s.period; adjustment = j; waiting = s.waiting })
    (record { period = s.period; adjustment = s.adjustment; waiting = j })

-- a TIME write clears fraction and remainder
abbrev pub clock_set : ℕ → ℕ → Clock
clock_set seconds nanoseconds = record { seconds = seconds; nanoseconds = nanoseconds; fraction = 0; remainder = 0 }
