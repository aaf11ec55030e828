-- The eighth as document 01 has it, floor(8 × (E - A) / S), for the theorem that every answer remains (document 02,
-- A.3). No part of the meaning.
use Rattle.std.specs.Prelude.{ℕ, ◌*◌, ◌-◌, ◌/◌, cond}
use Rattle.model.specs.declared.Engine.{Engine}
use Rattle.model.specs.declared.Generator.{Generator}
use Rattle.model.specs.declared.Words.{Words}
use Rattle.model.specs.Words.{five}
use Rattle.model.specs.Clock.{shown}
use Rattle.model.specs.Edges.{edge_code}
use Rattle.model.specs.Generator.{pending_total, is_due}
use Rattle.model.specs.Tick.{tick_step}

-- E - A and S, both times 256 × D
abbrev pub floor_eighth : Generator → ℕ → ℕ → ℕ
floor_eighth g a s = 8 * (pending_total g * 256 - a * g.denominator) / (s * g.denominator)

-- the code that a tick returned for the generator
abbrev pub floor_placed : Generator → ℕ → ℕ → ℕ
floor_placed g a s = cond (is_due g a s) (edge_code g.direction (floor_eighth g a s)) 0

abbrev pub floor_values : Engine → Words
floor_values e =
    five
    (floor_placed e.generator1 (shown e.clock) (tick_step e))
    (floor_placed e.generator2 (shown e.clock) (tick_step e))
    0 0 0
