-- The ranges of number 4 as facts, for functions that ask them of what they are given. Document 01, "Where each
-- command is checked", below the table.
use Rattle.std.specs.Prelude.{ℕ, ◌*◌, ◌<◌, ◌≤◌, ◌^◌}
use Rattle.model.specs.declared.Clock.{Clock}
use Rattle.model.specs.declared.Adjustment.{Adjustment}
use Rattle.model.specs.declared.Generator.{Generator}
use Rattle.model.specs.declared.Words.{Words}
use Rattle.model.specs.Units.{ns_per_second}
use Rattle.model.specs.Generator.{pending_total}

pub record ClockRange (k : Clock) : Type 0 where
  pub seconds : k.seconds < 2 ^ 48
  pub nanoseconds : k.nanoseconds < ns_per_second
  pub fraction : k.fraction < 256
  pub remainder : k.remainder < 2 ^ 24

-- an amount of a cycle: NS not 0, and 40 bits
pub record AmountRange (x : ℕ) : Type 0 where
  pub low : 2 ^ 32 ≤ x
  pub high : x < 2 ^ 40

-- an adjustment with cycles left, running or waiting
pub record AdjustmentRange (j : Adjustment) : Type 0 where
  pub amount : AmountRange j.amount
  pub some : 0 < j.cycles
  pub cycles : j.cycles < 2 ^ 24

-- a running generator at a time shown
pub record RunningRange (g : Generator) (now : ℕ) : Type 0 where
  pub seconds : g.pending.seconds < 2 ^ 48
  pub nanoseconds : g.pending.nanoseconds < ns_per_second
  pub remainder : g.pending.remainder < g.denominator
  pub wide : 256 ≤ g.whole
  pub whole : g.whole ≤ 999999999
  pub numerator : g.numerator < g.denominator
  pub denominator : g.denominator < 2 ^ 32
  pub some : 0 < g.left
  pub left : g.left < 2 ^ 32
  pub direction : g.direction ≤ 1
  pub mark : g.mark ≤ 1
  pub ahead : now * g.denominator ≤ pending_total g * 256

pub record WordsRange (w : Words) : Type 0 where
  pub w1 : w.w1 < 2 ^ 16
  pub w2 : w.w2 < 2 ^ 16
  pub w3 : w.w3 < 2 ^ 16
  pub w4 : w.w4 < 2 ^ 16
  pub w5 : w.w5 < 2 ^ 16
