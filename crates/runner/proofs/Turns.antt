-- While the rest of an accepted sheet is not empty it begins with a whole value line. So each turn writes the line of
-- the next command, and leaves the lines of the others to be written.
use Prim.Native.Nat.{ℕ, ◌+◌, ◌≤◌, ◌<◌}
use mathlib.Core.Path.{◌≡◌, refl, sym, ◌∙◌}
use mathlib.Core.Bool.{Bool, true, false, cond}
use mathlib.Core.List.{List, [], ◌∷◌, ◌++◌}
use native.Mathlib.Omega.{arith}
use native.Mathlib.Numerals.{add-one}
use lib.ListN.{length, drop, length-drop}
use borrow.Author.Tests.{lt-ltb}
use Rattle.std.specs.Prelude.{Some, None}
use Rattle.model.specs.declared.Command.{Command}
use Rattle.model.specs.declared.Engine.{Engine}
use Rattle.model.specs.declared.Outcome.{Outcome}
use Rattle.model.specs.Ranges.{valid}
use Rattle.model.specs.Record.{power_on}
use Rattle.model.specs.Run.{history_by, history_from}
use Rattle.text.specs.Text.{line_end, parts, first_part}
use Rattle.text.specs.Forms.{sheet_accepted}
use Rattle.text.specs.Sheet.{first_line, command_sheet, is_line, command_in, line_of, body_verdict, sheet_verdict}
use Rattle.text.specs.Sheet.{commands_of, commands_in}
use Rattle.text.specs.Results.{result_line, result_lines, command_results}
use Rattle.text.proofs.Laws.Splits.{parts_some}
use Rattle.text.proofs.Laws.FirstPart.{more_parts}
use Rattle.text.proofs.Laws.Starts.{starts_length}
use Rattle.text.proofs.Laws.CommandSheets.{accepted_in}
use Rattle.model.proofs.Laws.Valid.{power_on_valid}
use Rattle.engine.specs.Stepped.{Stepped}
use Rattle.lines.specs.declared.Next.{Next}
use Rattle.lines.specs.Reading.{ReadFrom, EndOf}
use Rattle.lines.proofs.LineParts.{part_end}
use Rattle.sheet.proofs.Body.{first_told, read_whole, line_refused}
use Rattle.numerals.specs.declared.TextWriter.{TextWriter}
use Rattle.numerals.specs.Written.{HasRoom, AppendsText}
use Rattle.numerals.proofs.Puts.{Rest, room_front, rest_whole, rest_less, rest_none}

-- the results of the commands from an index of the sheet on, the first of which stands in line k
abbrev results_from : Engine → ℕ → List ℕ → List ℕ
results_from e k s = result_lines k (history_from e (commands_of (parts line_end s)))

-- between two turns: the lines before the rest have been run, and their results are written
pub record RanTo (s rest : List ℕ) (before after : TextWriter) (e : Engine) (k : ℕ) : Type 0 where
  pub short : length s ≤ 65536
  pub numbered : k + length rest ≤ length s + 2
  pub is_valid : valid e ≡ true
  pub accepted : body_verdict k (parts line_end rest) ≡ sheet_accepted
  pub left : Rest before after (command_results s) (results_from e k rest)

-- an accepted sheet begins with its first line
pub sheet_long : (s : List ℕ) → sheet_verdict s ≡ sheet_accepted → 19 ≤ length s
sheet_long s h = starts_length first_line s (accepted_in s h).1

pub run_start : (s : List ℕ) (w : TextWriter) (e : Engine) → sheet_verdict s ≡ sheet_accepted
    → HasRoom w (command_results s)
    → e ≡ power_on
    → RanTo s (drop 19 s) w w e 2
unfolding commands_in command_sheet
run_start s w e h room on =
    let body = accepted_in s h in record {
      short = body.0;
      numbered = omega (arith, length-drop 19 s, sheet_long s h);
      is_valid = rw on power_on_valid;
      accepted = body.2;
      left = rw on (rest_whole room);
    }

commands_first : (l : List ℕ) (ps : List (List ℕ)) → 0 < length ps
    → commands_of (l ∷ ps) ≡ command_in l ∷ commands_of ps
commands_first l [] h = absurd (omega arith)
commands_first l (p ∷ ps) h = refl

-- what a line reads as is its command
read_command : (t : Bool) (c d : Command) → cond t (Some c) None ≡ Some d → c ≡ d
read_command true c d h = cc
read_command false c d h = cc

-- a turn: the line at the front as it is read, and its command's outcome
module _ {s rest : List ℕ} {before after : TextWriter} {e : Engine} {k : ℕ} (run : RanTo s rest before after e k)
    {next : Next} {command : Command} (read : ReadFrom rest next) (is : next.line ≡ Some command) where
  abbrev behind : List ℕ
  behind = drop (next.end + 1) rest

  whole : (length (first_part line_end rest) < length rest) × (is_line (first_part line_end rest) ≡ true)
  whole = read_whole rest read command is

  ends : next.end ≡ length (first_part line_end rest)
  ends = read.end ∙ part_end rest whole.1

  pub line_inside : next.end < length rest
  line_inside = omega (arith, whole.0, ends)

  verdict_behind : body_verdict (k + 1) (parts line_end behind) ≡ sheet_accepted
  verdict_behind =
      rw ends (sym (first_told rest k whole.0 ∙ rw whole.1 refl) ∙ run.accepted)

  commands_here : commands_of (parts line_end rest) ≡ command ∷ commands_of (parts line_end behind)
  unfolding line_of
  commands_here =
      let here = first_part line_end rest in
      let cut : parts line_end rest ≡ here ∷ parts line_end behind =
      rw (ends, add-one) (more_parts line_end rest whole.0) in
      let reads = rw (lt-ltb (length here) (length rest) whole.0) at read.line in
      rw (cut, ← read_command (is_line here) (command_in here) command (sym reads ∙ is))
      (commands_first here (parts line_end behind) (parts_some line_end behind))

  module _ (o : Outcome) (stepped : Stepped e command o) where
    abbrev result_here : List ℕ
    result_here = result_line k o.answer o.values

    abbrev results_behind : List ℕ
    results_behind = results_from o.engine (k + 1) behind

    results_here : results_from e k rest ≡ result_here ++ results_behind
    unfolding history_by
    results_here = rw (commands_here, stepped.is)

    pub line_room : HasRoom after result_here
    line_room = room_front after result_here results_behind (rw results_here at run.left.room)

    pub run_on : {next : TextWriter} → AppendsText after next result_here
        → RanTo s behind before next o.engine (k + 1)
    run_on written = record {
      short = run.short;
      numbered = omega (arith, run.numbered, line_inside, length-drop (next.end + 1) rest);
      is_valid = stepped.keeps;
      accepted = verdict_behind;
      left = rest_less run.left results_here written;
    }

-- where no line is read, none is left
pub run_end : {s rest : List ℕ} {before after : TextWriter} {e : Engine} {k : ℕ} {next : Next}
    → RanTo s rest before after e k
    → ReadFrom rest next
    → next.line ≡ None
    → AppendsText before after (command_results s)
unfolding history_by
run_end {rest = []} run read is = rest_none run.left
run_end {rest = b ∷ rest} {k = k} {next = next} run read is =
    let none : EndOf (b ∷ rest) None = record { next = next; read = read; is = rw is refl } in
    let refused = sym run.accepted ∙ line_refused (b ∷ rest) k (omega arith) none in
    cc
