-- The command sheet by the laws of forms: nine values, each read as it is written. A row of nine numbers is a command;
-- in decimal each number has one text, so that a sheet has one.
use Prim.Native.Nat.{ℕ, ◌+◌, ◌*◌, ◌≤◌}
use mathlib.Core.Path.{◌≡◌, refl, ap, ◌∙◌}
use mathlib.Core.Bool.{true}
use mathlib.Core.List.{List, [], ◌∷◌, map}
use native.Mathlib.Omega.{arith}
use lib.ListN.{length, drop, length-append, length-map}
use Rattle.model.specs.declared.Command.{Command}
use Rattle.text.specs.Text.{line_end, parts, starts_with, row}
use Rattle.text.specs.Forms.{WritesLine, WritesLines, WritesSheet, sheet_accepted, rows_in}
use Rattle.text.specs.Sheet.{first_line, command_sheet, decimal_sheet, command_of, fields_of, Writes, body_verdict}
use Rattle.text.specs.Sheet.{sheet_verdict, commands_in, lines_text, sheet_text, fields_fit}
use Rattle.model.proofs.Laws.Testing.{both, both_true}
use Rattle.text.proofs.Laws.FormLines.{each_counts, line_in}
use Rattle.text.proofs.Laws.FormSheets as Form
use Rattle.text.proofs.Laws.Lines.{decimals, eithers, eithers_inverse, all_fit, row_writes, line_is_row}
use Rattle.text.proofs.Laws.Lines.{fields_of_nine}

-- an accepted sheet, as facts
pub accepted_in : (s : List ℕ) → sheet_verdict s ≡ sheet_accepted
    → (length s ≤ 65536)
    × (starts_with first_line s ≡ true)
    × (body_verdict 2 (parts line_end (drop 19 s)) ≡ sheet_accepted)
unfolding command_sheet
accepted_in s h = let k = Form.accepted_in command_sheet s h in (k.short, k.starts, k.lines)

pub accepted_short : (s : List ℕ) → sheet_verdict s ≡ sheet_accepted → length s ≤ 65536
accepted_short s h = (accepted_in s h).0

-- commands as rows of nine numbers, and back
commands_back : (cs : List Command) → map command_of (map fields_of cs) ≡ cs
commands_back [] = refl
commands_back (c ∷ cs) = ap (◌∷◌ c) (commands_back cs)

rows_back : (bs : List ℕ) (rows : List (List ℕ)) → WritesLines (eithers 9) bs rows
    → map fields_of (map command_of rows) ≡ rows
rows_back bs [] w = refl
rows_back bs (ns ∷ rows) w =
    let nine = (each_counts (eithers 9) w.first.texts ns w.first.each).1 in
    rw (fields_of_nine ns nine, rows_back w.back rows w.second) refl

-- a sheet that writes commands is accepted and reads as them
pub writes_read : (s : List ℕ) (cs : List Command) → Writes s cs → length s ≤ 65536
    → (sheet_verdict s ≡ sheet_accepted) × (commands_in s ≡ cs)
unfolding commands_in command_sheet
writes_read s cs w short =
    let read = Form.sheet_read command_sheet (eithers_inverse 9) (omega arith) s (map fields_of cs) w short in
    (read.0, ap (map command_of) read.1 ∙ commands_back cs)

-- and an accepted sheet writes the commands that it reads as
pub sheet_writes : (s : List ℕ) → sheet_verdict s ≡ sheet_accepted → Writes s (commands_in s)
unfolding commands_in command_sheet
sheet_writes s h =
    let w = Form.sheet_written command_sheet (eithers_inverse 9) (omega arith) s h in
    rw (rows_back w.back (rows_in command_sheet s) w.second) w

-- the decimal text of a list writes the list
lines_text_lem : (cs : List Command) → fields_fit cs ≡ true → WritesLines (eithers 9) (lines_text cs) (map fields_of cs)
lines_text_lem [] h = refl
lines_text_lem (c ∷ cs) h =
    let fit = both (all_fit (fields_of c)) (fields_fit cs) h in
    record {
      front = row (fields_of c);
      back = lines_text cs;
      whole = refl;
      first = row_writes (fields_of c) fit.0;
      second = lines_text_lem cs fit.1;
    }

pub text_writes : (cs : List Command) → fields_fit cs ≡ true → Writes (sheet_text cs) cs
unfolding sheet_text command_sheet
text_writes cs h = record {
  front = first_line;
  back = lines_text cs;
  whole = refl;
  first = refl;
  second = lines_text_lem cs h;
}

-- and in decimal is its only text
one_text : (bs : List ℕ) (cs : List Command) → WritesLines (decimals 9) bs (map fields_of cs)
    → (bs ≡ lines_text cs) × (fields_fit cs ≡ true)
one_text bs [] w = (w, refl)
one_text bs (c ∷ cs) w =
    let line = line_is_row 9 w.front (fields_of c) w.first in
    let rest = one_text w.back cs w.second in
    (w.whole ∙ rw (line.0, rest.0) refl, both_true _ _ line.1 rest.1)

pub decimal_text : (s : List ℕ) (cs : List Command) → WritesSheet decimal_sheet s (map fields_of cs)
    → (s ≡ sheet_text cs) × (fields_fit cs ≡ true)
unfolding sheet_text decimal_sheet
decimal_text s cs w =
    let lines = one_text w.back cs w.second in
    (w.whole ∙ rw (w.first, lines.0) refl, lines.1)

-- the first line has 19 bytes, and each value line at least 18
line_long : (bs ns : List ℕ) → WritesLine (eithers 9) bs ns → 18 ≤ length bs
unfolding command_sheet
line_long bs ns w =
    let line = line_in command_sheet (eithers_inverse 9) (omega arith) bs ns w in
    omega (arith, ap length line.whole ∙ length-append line.line (line_end ∷ []), line.long)

lines_long : (bs : List ℕ) (rows : List (List ℕ)) → WritesLines (eithers 9) bs rows → 18 * length rows ≤ length bs
lines_long bs [] w = omega arith
lines_long bs (ns ∷ rows) w =
    omega (
      arith,
      ap length w.whole ∙ length-append w.front w.back,
      line_long w.front ns w.first,
      lines_long w.back rows w.second,
    )

pub commands_few : (s : List ℕ) → sheet_verdict s ≡ sheet_accepted → 19 + 18 * length (commands_in s) ≤ length s
unfolding command_sheet
commands_few s h =
    let w = sheet_writes s h in
    let head : length w.front ≡ 19 = ap length w.first in
    omega (
      arith,
      ap length w.whole ∙ length-append w.front w.back,
      lines_long w.back (map fields_of (commands_in s)) w.second,
      length-map (commands_in s) fields_of,
    )
