-- Ticks by formula: what n cycles leave of a record where no input and no generator has an edge. Document 02, A.1:
-- "Where no generator has an edge in the stretch, the time is found by formula, shown equal to ticking." The waiting
-- adjustment, document 02, A.4.
use Rattle.std.specs.Prelude.{ℕ, ◌+◌, ◌*◌, ◌-◌, min, Bool, ◌&&◌, cond, leb}
use Rattle.model.specs.declared.Adjustment.{Adjustment}
use Rattle.model.specs.declared.Steering.{Steering}
use Rattle.model.specs.declared.Engine.{Engine}
use Rattle.model.specs.Clock.{exact, clock_at_exact, no_adjustment}
use Rattle.model.specs.Interrupts.{with_bit}

-- what n cycles bring, in 2^-32 ns, in three phases: the running adjustment's amount while it has cycles left, then
-- that of the one that waits (document 02, A.4), then PERIOD
unfoldable pub amount_of : Steering → ℕ → ℕ
amount_of s n =
    min n s.adjustment.cycles * s.adjustment.amount
    + (min (n - s.adjustment.cycles) s.waiting.cycles * s.waiting.amount
    + (n - s.adjustment.cycles - s.waiting.cycles) * s.period)

-- an adjustment after n cycles of its own: none when no cycle is left
unfoldable pub spent_by : Adjustment → ℕ → Adjustment
spent_by j n = cond (leb j.cycles n) no_adjustment (record { amount = j.amount; cycles = j.cycles - n })

-- the steering after n cycles: the cycles that the running adjustment leaves over are those of the one that waits
unfoldable pub steering_by : Steering → ℕ → Steering
steering_by s n =
    cond (leb s.adjustment.cycles n)
    (record {
      period = s.period;
      adjustment = spent_by s.waiting (n - s.adjustment.cycles);
      waiting = no_adjustment;
    })
    (record { period = s.period; adjustment = spent_by s.adjustment n; waiting = s.waiting })

-- the running one's last cycle is among the n: TAC, bit 0. Where the one that waits ends among them as well, it is set
-- already
unfoldable pub ends_within : Adjustment → ℕ → Bool
ends_within j n = leb 1 j.cycles && leb j.cycles n

abbrev pub latched_by : Adjustment → ℕ → ℕ → ℕ
latched_by j n latched = cond (ends_within j n) (with_bit 0 latched) latched

unfoldable pub elapsed : ℕ → Engine → Engine
elapsed n e = record {
  clock = clock_at_exact (exact e.clock + amount_of e.steering n);
  steering = steering_by e.steering n;
  fifo1 = e.fifo1;
  fifo2 = e.fifo2;
  fifo3 = e.fifo3;
  generator1 = e.generator1;
  generator2 = e.generator2;
  interrupts = record {
    latched = latched_by e.steering.adjustment n e.interrupts.latched;
    enabled = e.interrupts.enabled;
  };
  words = e.words;
}
