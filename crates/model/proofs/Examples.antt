-- The examples of the engine, as one list proved by one statement: the starred ones of document 01, each cell of its
-- tables of words, run lines, adjustments in succession, previews, departure times, timestamps, and the limits of
-- records and fields. Each holds because the definitions compute: a run from power-on gives the numbers that the papers
-- state or that were worked out from them. With the examples of sheets it is the list of the crate text.
use mathlib.Core.Path.{◌≡◌, refl}
use mathlib.Core.List.{List, ◌++◌, map}
use mathlib.Core.Bool.{true}
use Rattle.model.specs.Run.{engine_by, history_by}
use Rattle.model.proofs.Examples.Runs.{Example, answers, last_values, values}
use Rattle.model.proofs.Examples.Stated.{same, as_stated, stated_equal}
use Rattle.model.proofs.Examples.Opened.{opened}
use Rattle.model.proofs.Examples.Starred.{shown_after, edge_at, edges_from, starred}
use Rattle.model.proofs.Examples.Cells.{time_cell, amount_cell, count_cell, refused_cell, cells}
use Rattle.model.proofs.Examples.RunsOfTicks.{run_lines}
use Rattle.model.proofs.Examples.Adjustments.{adjustments}
use Rattle.model.proofs.Examples.Previews.{previews}
use Rattle.model.proofs.Examples.Departures.{departures}
use Rattle.model.proofs.Examples.Rounding.{timestamps}
use Rattle.model.proofs.Examples.RecordLimits.{record_limits, answers_on}
use Rattle.model.proofs.Examples.FieldLimits.{field_limits, answers_to}
-- commands and runs; how examples are computed; the parts of the list
pub mod Runs
pub mod Stated
pub mod Opened
pub mod Starred
pub mod Cells
pub mod RunsOfTicks
pub mod Adjustments
pub mod Previews
pub mod Departures
pub mod Rounding
pub mod RecordLimits
pub mod FieldLimits

pub examples : List Example
examples =
    starred ++ cells ++ run_lines ++ adjustments ++ previews ++ departures ++ timestamps ++ record_limits
    ++ field_limits

examples_tested : as_stated examples ≡ true
unfolding examples starred cells run_lines adjustments previews departures timestamps record_limits field_limits
    answers_on answers_to time_cell amount_cell count_cell refused_cell answers last_values values shown_after edge_at
    edges_from as_stated same engine_by history_by opened
examples_tested = refl

-- every example is as stated
pub examples_hold : map (λ (x : Example). x.found) examples ≡ map (λ (x : Example). x.stated) examples
examples_hold = stated_equal examples examples_tested
