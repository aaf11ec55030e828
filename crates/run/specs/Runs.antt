-- A run by formula: ticks without an edge in one step, what is told of a stretch, and what the steps ask. Document 02,
-- A.1.
use Rattle.std.specs.Prelude.{ℕ, ◌≤◌, min, ◌≡◌, true, false, Option, Some, None}
use Rattle.model.specs.declared.Engine.{Engine}
use Rattle.model.specs.Words.{no_words}
use Rattle.model.specs.Tick.{no_inputs}
use Rattle.model.specs.RunLine.{Stretch, run_values}
use Rattle.model.specs.Elapse.{elapsed}
use Rattle.model.specs.Ranges.{valid}
use Rattle.change.specs.declared.Change.{Change}
use Rattle.change.specs.Changes.{change_to}
use Rattle.tick.specs.Ticks.{Ticks}

-- the earlier of two ticks, where there is one
abbrev pub earliest : Option ℕ → Option ℕ → Option ℕ
earliest None b = b
earliest (Some a) None = Some a
earliest (Some a) (Some b) = Some (min a b)

-- n ticks without an edge, by formula
abbrev pub quietly : ℕ → Engine → Stretch
quietly n e = record { engine = elapsed n e; values = no_words; done = n }

-- the change that a stretch makes: no FIFO moves
abbrev pub ran_to : Stretch → Change
ran_to x = change_to (run_values x) x.engine false

-- a valid record, and few ticks
pub record Starting (e : Engine) (n : ℕ) : Type 0 where
  pub on : valid e ≡ true
  pub few : n ≤ 1000000

-- and one more tick after them is accepted
pub record Ending (e : Engine) (n : ℕ) : Type 0 where
  pub start : Starting e n
  pub more : Ticks (elapsed n e) no_inputs
