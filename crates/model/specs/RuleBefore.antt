-- Number 11 as it was before document 02, A.4: given while an adjustment runs. For the theorem that a list that met no
-- 11 then gives the same answers and values now; no part of the meaning.
use Rattle.std.specs.Prelude.{ℕ, List, map, Bool, not, cond, eqb}
use Rattle.model.specs.declared.Engine.{Engine}
use Rattle.model.specs.declared.Command.{Command}
use Rattle.model.specs.declared.Outcome.{Outcome}
use Rattle.model.specs.Tests.{every, first_failed}
use Rattle.model.specs.Record.{power_on}
use Rattle.model.specs.Outcome.{refused}
use Rattle.model.specs.Ops.{performed}
use Rattle.model.specs.Checks.{Row, row, adjusts, table, checked}
use Rattle.model.specs.Run.{Entry, engine_by, history_by}

-- the row of 11, asked of the running adjustment
abbrev pub none_runs : Row
none_runs = row 11 adjusts (λ e c. eqb e.steering.adjustment.cycles 0)

-- the table of checks with this row in the place of the other
abbrev pub table_before : List Row
table_before = map (λ r. cond (eqb r.number 11) none_runs r) table

unfoldable pub answer_before : Engine → Command → ℕ
answer_before e c = first_failed (checked e c table_before)

-- a command by that table; what it does is what it does now
unfoldable pub execute_before : Engine → Command → Outcome
execute_before e c = cond (eqb (answer_before e c) 0) (performed e c) (refused e (answer_before e c))

-- a list from power-on by that table: the record after it, and what was told of it
abbrev pub engine_before : List Command → Engine
engine_before cs = engine_by execute_before power_on cs

abbrev pub history_before : List Command → List Entry
history_before cs = history_by execute_before power_on cs

-- no command was answered with 11
abbrev pub none_got11 : List Entry → Bool
none_got11 xs = every (map (λ x. not (eqb x.answer 11)) xs)
