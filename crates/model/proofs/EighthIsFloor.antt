-- The eighth that is found from the top is floor(8 × (E - A) / S), so that every answer remains. Document 02, A.3.
use Prim.Native.Nat.{ℕ, ◌<◌}
use mathlib.Core.Path.{◌≡◌}
use mathlib.Core.Bool.{true}
use Rattle.model.specs.declared.Engine.{Engine}
use Rattle.model.specs.declared.Command.{Command}
use Rattle.model.specs.declared.Generator.{Generator}
use Rattle.model.specs.Generator.{is_due, eighth_of, placed}
use Rattle.model.specs.Ranges.{generator_ok}
use Rattle.model.specs.Execute.{execute}
use Rattle.model.specs.FloorEighth.{floor_eighth, floor_placed, floor_values}
use Rattle.model.proofs.Laws.Eighths as Law

-- for every due instant of a generator that is valid at the time shown a, in a tick of step s
pub eighth_is_floor : (g : Generator) (a s : ℕ) → generator_ok g a ≡ true → 0 < s → is_due g a s ≡ true
    → eighth_of g a s ≡ floor_eighth g a s
eighth_is_floor = Law.due_is_floor

-- so its code is what it was, due or not
pub code_is_floor : (g : Generator) (a s : ℕ) → generator_ok g a ≡ true → 0 < s → placed g a s ≡ floor_placed g a s
code_is_floor = Law.placed_is_floor

-- and an accepted tick returns what it returned, on every record. A run is its ticks (RunLines).
pub tick_is_floor : (e : Engine) (c : Command) → c.op ≡ 0 → (execute e c).answer ≡ 0
    → (execute e c).values ≡ floor_values e
tick_is_floor = Law.tick_is_floor
