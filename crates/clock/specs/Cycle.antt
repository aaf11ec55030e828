-- What a reference cycle asks of the clock, and what it makes of the steering. Document 01, "The clock".
use Rattle.std.specs.Prelude.{ℕ, ◌<◌, ◌≤◌, ◌^◌, ◌≡◌}
use Rattle.model.specs.declared.Clock.{Clock}
use Rattle.model.specs.declared.Steering.{Steering}
use Rattle.model.specs.Clock.{cycle_amount, step_by, steering_after, last_cycle}
use Rattle.model.specs.Bounds.{ClockRange}
use Rattle.clock.specs.declared.Steered.{Steered}

-- a clock in range, the amount of a cycle and the step that it makes
pub record Cycle (k : Clock) (amount step : ℕ) : Type 0 where
  pub clock : ClockRange k
  pub high : amount < 2 ^ 40
  pub is : step ≡ step_by k amount
  pub low : step ≤ 65536

-- the amount of the cycle, the steering after it, and whether it is an adjustment's last
abbrev pub steered_of : Steering → Steered
steered_of s = record { amount = cycle_amount s; steering = steering_after s; last = last_cycle s.adjustment }
