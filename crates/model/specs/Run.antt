-- The run of a list of commands, each on the record that the last one returned. Document 01, "The ledger of demand
-- 3".
use Rattle.std.specs.Prelude.{ℕ, List, [], ◌∷◌, cond, eqb, replicate}
use Rattle.model.specs.declared.Engine.{Engine}
use Rattle.model.specs.declared.Command.{Command}
use Rattle.model.specs.declared.Outcome.{Outcome}
use Rattle.model.specs.declared.Words.{Words}
use Rattle.model.specs.Record.{power_on}
use Rattle.model.specs.Tick.{no_inputs}
use Rattle.model.specs.Execute.{execute}

-- what an onlooker is told of one command: its fields, its answer and its five values
pub record Entry : Type 0 where
  pub command : Command
  pub answer : ℕ
  pub values : Words

abbrev pub entry_of : Command → Outcome → Entry
entry_of c o = record { command = c; answer = o.answer; values = o.values }

-- the record after a list of commands, each of which gives what a step says
unfoldable pub engine_by : (Engine → Command → Outcome) → Engine → List Command → Engine
engine_by step e [] = e
engine_by step e (c ∷ cs) = engine_by step (step e c).engine cs

-- what was told of the list
unfoldable pub history_by : (Engine → Command → Outcome) → Engine → List Command → List Entry
history_by step e [] = []
history_by step e (c ∷ cs) = entry_of c (step e c) ∷ history_by step (step e c).engine cs

-- the answer of the first refused command, 0 where none is refused
abbrev pub first_refusal : List Entry → ℕ
first_refusal [] = 0
first_refusal (x ∷ xs) = cond (eqb x.answer 0) (first_refusal xs) x.answer

-- by the checks and the ops
abbrev pub engine_from : Engine → List Command → Engine
engine_from e cs = engine_by execute e cs

abbrev pub history_from : Engine → List Command → List Entry
history_from e cs = history_by execute e cs

-- from power-on
abbrev pub engine_after : List Command → Engine
engine_after cs = engine_from power_on cs

abbrev pub history : List Command → List Entry
history cs = history_from power_on cs

-- ticks one after the other: the record after k ops 0 without inputs, and what one more gives
abbrev pub after_ticks : Engine → ℕ → Engine
after_ticks e k = engine_from e (replicate k no_inputs)

abbrev pub tick_after : Engine → ℕ → Outcome
tick_after e k = execute (after_ticks e k) no_inputs
