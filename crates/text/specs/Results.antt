-- What the runner prints for a sheet: the head, then a line for each command of the run from power-on, or the one line
-- of a refused sheet. Document 01, "Command sheet".
use Rattle.std.specs.Prelude.{ℕ, ◌+◌, ◌*◌, List, [], ◌∷◌, ◌++◌, Ok, Err}
use Rattle.model.specs.declared.Words.{Words}
use Rattle.model.specs.Words.{no_words}
use Rattle.model.specs.Run.{Entry, history}
use Rattle.text.specs.Text.{bytes, row}
use Rattle.text.specs.Forms.{Verdict, refusal_number, refusal_line}
use Rattle.text.specs.Sheet.{sheet_verdict, commands_in}

-- `line,answer,v1,v2,v3,v4,v5` and its line end
abbrev pub result_head : List ℕ
result_head = bytes "line,answer,v1,v2,v3,v4,v5\n"

-- sheet line, answer, five values
abbrev pub result_line : ℕ → ℕ → Words → List ℕ
result_line line answer v = row (line ∷ answer ∷ v.w1 ∷ v.w2 ∷ v.w3 ∷ v.w4 ∷ v.w5 ∷ [])

-- a line for each command, the first of them being line k of the sheet
abbrev pub result_lines : ℕ → List Entry → List ℕ
result_lines k [] = []
result_lines k (t ∷ ts) = result_line k t.answer t.values ++ result_lines (k + 1) ts

-- the lines of an accepted sheet's commands, of which the first stands in line 2
abbrev pub command_results : List ℕ → List ℕ
command_results s = result_lines 2 (history (commands_in s))

-- a refused sheet has one line: line number, answer, zeros
abbrev pub results_by : Verdict → List ℕ → List ℕ
results_by (Ok u) s = command_results s
results_by (Err e) s = result_line (refusal_line e) (refusal_number e) no_words

unfoldable pub results : List ℕ → List ℕ
results s = result_head ++ results_by (sheet_verdict s) s

-- room for the results of every sheet: the head, and at most 38 bytes for each of at most 3,639 value lines
abbrev pub results_room : ℕ
results_room = 27 + 38 * 3639
