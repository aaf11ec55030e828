-- What the functions ask: a clock, a steering and a generator in range, and ticks that bring less than a second.
use Rattle.std.specs.Prelude.{ℕ, ◌+◌, ◌≤◌, ◌<◌, ◌^◌, ◌≡◌, true}
use Rattle.model.specs.declared.Clock.{Clock}
use Rattle.model.specs.declared.Steering.{Steering}
use Rattle.model.specs.declared.Generator.{Generator}
use Rattle.model.specs.Clock.{shown}
use Rattle.model.specs.Ranges.{steering_ok}
use Rattle.model.specs.Bounds.{ClockRange, RunningRange}
use Rattle.elapse.specs.Seconds.{in_second}

-- a running generator with a pending instant of the second shown or the next
pub record Near (g : Generator) (k : Clock) : Type 0 where
  pub clock : ClockRange k
  pub running : RunningRange g (shown k)
  pub near : g.pending.seconds ≤ k.seconds + 1

pub record InTime (k : Clock) (here : ℕ) (s : Steering) (amount : ℕ) : Type 0 where
  pub clock : ClockRange k
  pub in_here : here ≡ in_second k
  pub steering : steering_ok s ≡ true
  pub short : amount < 2 ^ 60
