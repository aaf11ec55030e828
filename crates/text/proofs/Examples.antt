-- Every example, as one list proved by one statement: those of the engine, with the starred ones of document 01; then
-- sheets, among them the two that are starred, and values in base 16. Each holds because the definitions compute.
use mathlib.Core.Path.{◌≡◌, refl}
use mathlib.Core.List.{List, ◌++◌, map, map-append}
use mathlib.Core.Bool.{true}
use Rattle.model.proofs.Examples.Runs.{Example}
use Rattle.model.proofs.Examples.Stated.{same, as_stated, stated_equal}
use Rattle.model.proofs.Examples.Opened.{opened}
use Rattle.model.proofs.Examples as Engine
use Rattle.text.specs.Text
use Rattle.text.specs.Forms
use Rattle.text.specs.Sheet
use Rattle.text.specs.Results
use Rattle.text.proofs.Examples.Sheets.{verdict, sheets}
use Rattle.text.proofs.Examples.Writings.{writings, told, told_of}
pub mod Sheets
pub mod Writings

abbrev texts : List Example
texts = sheets ++ writings

texts_tested : as_stated texts ≡ true
unfolding sheets writings told told_of verdict as_stated same opened Text.is_number Text.is_value Text.number_of
    Forms.reads_line Forms.row_in Forms.head_verdict Forms.verdict_of Sheet.command_sheet Sheet.commands_in
    Text.value_of Text.decimal Text.base16 Results.results
texts_tested = refl

pub examples : List Example
examples = Engine.examples ++ texts

-- every example is as stated
pub examples_hold : map (λ (x : Example). x.found) examples ≡ map (λ (x : Example). x.stated) examples
unfolding examples
examples_hold =
    rw (
      map-append (λ (x : Example). x.found) Engine.examples texts,
      map-append (λ (x : Example). x.stated) Engine.examples texts,
      Engine.examples_hold,
      stated_equal texts texts_tested,
    )
