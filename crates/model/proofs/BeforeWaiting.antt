-- "A list from power-on that met no 11 before gives the same answers and values" (document 02, A.4). The rule before is
-- the table of checks with 11 given while an adjustment runs.
use mathlib.Core.Path.{◌≡◌}
use mathlib.Core.List.{List}
use mathlib.Core.Bool.{true}
use Rattle.model.specs.declared.Command.{Command}
use Rattle.model.specs.Clock.{no_adjustment}
use Rattle.model.specs.Record.{power_on}
use Rattle.model.specs.Run.{engine_after, history}
use Rattle.model.specs.RuleBefore.{engine_before, history_before, none_got11}
use Rattle.model.proofs.Laws.NeverWaited as Law

-- by that rule the waiting place is never used, so that the record was the one without it
pub never_waited : (cs : List Command) → (engine_before cs).steering.waiting ≡ no_adjustment
never_waited cs = Law.list_free cs power_on Law.power_on_free

-- every command of the list has the answer and the values that it had
pub same_history : (cs : List Command) → none_got11 (history_before cs) ≡ true
    → history cs ≡ history_before cs
same_history cs none = (Law.same_run cs power_on Law.power_on_free none).history

-- and the record after it is the same
pub same_record : (cs : List Command) → none_got11 (history_before cs) ≡ true
    → engine_after cs ≡ engine_before cs
same_record cs none = (Law.same_run cs power_on Law.power_on_free none).engine
