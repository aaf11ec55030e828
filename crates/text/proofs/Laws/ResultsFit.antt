-- Why the results of every sheet fit into `results_room` bytes. A line number below 10,000, an answer of two digits and
-- five 16-bit values make at most 38 bytes with commas and line end; an accepted sheet has at most 3,639 value lines,
-- and a refused sheet has one line of results.
use Prim.Native.Nat.{ℕ, ◌+◌, ◌*◌, ◌<◌, ◌≤◌, ◌^◌}
use mathlib.Core.Path.{◌≡◌, refl}
use mathlib.Core.List.{List, [], ◌∷◌, ◌++◌}
use mathlib.Core.Bool.{Bool, true, false}
use native.Mathlib.Omega.{arith}
use lib.Dec.{eqb}
use lib.ListN.{length, drop, length-append, length-drop}
use Rattle.model.specs.declared.Engine.{Engine}
use Rattle.model.specs.declared.Command.{Command}
use Rattle.model.specs.declared.Words.{Words}
use Rattle.std.specs.Prelude.{Ok, Err}
use Rattle.text.specs.declared.SheetRefusal.{SheetRefusal}
use Rattle.text.specs.declared.SheetRefusal.TheVariants.{TooLong, FirstLine, ValueLine}
use Rattle.model.specs.Words.{no_words}
use Rattle.model.specs.Record.{power_on}
use Rattle.model.specs.Bounds.{WordsRange}
use Rattle.model.specs.Execute.{execute}
use Rattle.model.specs.Run.{history_by, history_from}
use Rattle.text.specs.Text.{line_end, into_parts, parts, decimal}
use Rattle.text.specs.Forms.{Verdict, refusal_number, refusal_line, sheet_accepted}
use Rattle.text.specs.Sheet.{command_sheet, is_line, body_verdict, sheet_verdict, commands_in}
use Rattle.text.specs.Results.{result_head, result_line, result_lines, command_results, results_by, results}
use Rattle.text.specs.Results.{results_room}
use Rattle.model.proofs.Laws.Testing.{split}
use Rattle.text.proofs.Laws.Decimal.{length_below}
use Rattle.text.proofs.Laws.FormSheets.{by_head}
use Rattle.text.proofs.Laws.CommandSheets.{commands_few, accepted_short}
use Rattle.model.proofs.Laws.ResultValues.{no_words_in, values_in, answer_small}

-- ---- one line

-- the digits of its numbers, six commas, the line end
line_length : (line answer : ℕ) (v : Words) → length (result_line line answer v)
    ≡ length (decimal line) + length (decimal answer) + length (decimal v.w1) + length (decimal v.w2)
    + length (decimal v.w3) + length (decimal v.w4) + length (decimal v.w5) + 7
line_length line answer v = simp length-append (omega arith)

word_length : (n : ℕ) → n < 2 ^ 16 → length (decimal n) ≤ 5
word_length n h = length_below 5 n (omega arith) (omega arith) (omega arith)

-- six digits are left for the line number and the answer
line_fits : (line answer : ℕ) (v : Words) → length (decimal line) + length (decimal answer) ≤ 6 → WordsRange v
    → length (result_line line answer v) ≤ 38
line_fits line answer v h w =
    let l₁ = word_length v.w1 w.w1 in
    let l₂ = word_length v.w2 w.w2 in
    let l₃ = word_length v.w3 w.w3 in
    let l₄ = word_length v.w4 w.w4 in
    let l₅ = word_length v.w5 w.w5 in
    omega (arith, line_length line answer v)

pub result_line_length : (line answer : ℕ) (v : Words) → line < 10000 → answer < 100 → WordsRange v
    → length (result_line line answer v) ≤ 38
result_line_length line answer v l a w =
    let four = length_below 4 line (omega arith) l (omega arith) in
    let two = length_below 2 answer (omega arith) a (omega arith) in
    line_fits line answer v (omega arith) w

-- ---- an accepted sheet

pub result_lines_length : (cs : List Command) (e : Engine) (k : ℕ) → k + length cs ≤ 10000
    → length (result_lines k (history_from e cs)) ≤ 38 * length cs
unfolding history_by
result_lines_length [] e k h = omega arith
result_lines_length (c ∷ cs) e k h =
    let o = execute e c in
    let answer = answer_small e c in
    let first = result_line_length k o.answer o.values (omega arith) (omega arith) (values_in e c) in
    let rest = result_lines_length cs o.engine (k + 1) (omega arith) in
    rw (length-append (result_line k o.answer o.values)) (omega arith)

-- ---- a refused sheet

-- a refusal has a number of one digit, which is not 0
number_small : (e : SheetRefusal) → refusal_number e < 10
number_small TooLong = omega arith
number_small FirstLine = omega arith
number_small (ValueLine line) = omega arith

pub number_some : (e : SheetRefusal) → 0 < refusal_number e
number_some TooLong = omega arith
number_some FirstLine = omega arith
number_some (ValueLine line) = omega arith

-- and stands in a line whose number has at most five digits
abbrev Judged : Verdict → Type 0
Judged (Ok u) = Unit {0}
Judged (Err e) = (refusal_line e < 100000) × (0 < refusal_number e) × (refusal_number e < 10)

refused_judged : (e : SheetRefusal) → refusal_line e < 100000 → Judged (Err e)
refused_judged e h = (h, number_some e, number_small e)

body_judged : (k : ℕ) (ls : List (List ℕ)) → k + length ls ≤ 100000 → Judged (body_verdict k ls)
body_judged k [] h = tt
body_judged k (l ∷ []) h =
    split Judged (eqb (length l) 0) (λ y. tt) (λ n. refused_judged (ValueLine k) (omega arith))
body_judged k (l ∷ m ∷ ls) h =
    split Judged (is_line l) (λ y. body_judged (k + 1) (m ∷ ls) (omega arith))
    (λ n. refused_judged (ValueLine k) (omega arith))

-- a text has at most one part more than bytes
parts_few : (separator : ℕ) (bs : List ℕ) → length (parts separator bs) ≤ length bs + 1
parts_few separator [] = omega arith
parts_few separator (b ∷ bs) = by (eqb b separator) (parts separator bs) (parts_few separator bs)
  where
    by : (new : Bool) (ps : List (List ℕ)) → length ps ≤ length bs + 1
        → length (into_parts new b ps) ≤ length (b ∷ bs) + 1
    by true ps h = omega arith
    by false [] h = omega arith
    by false (p ∷ ps) h = omega arith

verdict_judged : (s : List ℕ) → Judged (sheet_verdict s)
unfolding command_sheet
verdict_judged s =
    by_head Judged command_sheet s (refused_judged TooLong (omega arith)) (refused_judged FirstLine (omega arith))
    (λ short starts. body_judged 2 (parts line_end (drop 19 s)) (few short))
  where
    few : length s ≤ 65536 → 2 + length (parts line_end (drop 19 s)) ≤ 100000
    few h = omega (arith, parts_few line_end (drop 19 s), length-drop 19 s)

-- the number that is told of a verdict: 0 of an accepted sheet, and of no other
abbrev pub verdict_number : Verdict → ℕ
verdict_number (Ok u) = 0
verdict_number (Err e) = refusal_number e

pub verdict_answer_zero : (s : List ℕ) → verdict_number (sheet_verdict s) ≡ 0 → sheet_verdict s ≡ sheet_accepted
verdict_answer_zero s = by (sheet_verdict s) (verdict_judged s)
  where
    by : (v : Verdict) → Judged v → verdict_number v ≡ 0 → v ≡ sheet_accepted
    by (Ok u) j h = refl
    by (Err e) j h = absurd (omega (arith, j.1, h))

pub refused_length : (s : List ℕ) (e : SheetRefusal) → sheet_verdict s ≡ Err e
    → length (result_line (refusal_line e) (refusal_number e) no_words) ≤ 38
refused_length s e h =
    let j : Judged (Err e) = rw h at (verdict_judged s) in
    let five = length_below 5 (refusal_line e) (omega arith) j.0 (omega (arith, j.0)) in
    let one = length_below 1 (refusal_number e) (omega arith) j.2 (omega (arith, j.2)) in
    line_fits (refusal_line e) (refusal_number e) no_words (omega arith) no_words_in

-- ---- every sheet

-- an accepted sheet of at most 65,536 bytes has at most 3,639 commands, each in a line of at least 18 bytes
pub command_results_length : (s : List ℕ) → sheet_verdict s ≡ sheet_accepted → length (command_results s) ≤ 38 * 3639
command_results_length s h =
    let few = commands_few s h in
    let short = accepted_short s h in
    omega (arith, result_lines_length (commands_in s) power_on 2 (omega arith))

pub results_fit : (s : List ℕ) → length (results s) ≤ results_room
unfolding results
results_fit s = by (sheet_verdict s) refl
  where
    by : (v : Verdict) → sheet_verdict s ≡ v → length (result_head ++ results_by v s) ≤ results_room
    by (Ok u) h = omega (arith, command_results_length s h)
    by (Err e) h = omega (arith, refused_length s e h)

-- the results by the sheet's verdict
pub results_accepted : (s : List ℕ) → sheet_verdict s ≡ sheet_accepted → results s ≡ result_head ++ command_results s
unfolding results
results_accepted s h = rw h

pub results_refused : (s : List ℕ) (e : SheetRefusal) → sheet_verdict s ≡ Err e
    → results s ≡ result_head ++ result_line (refusal_line e) (refusal_number e) no_words
unfolding results
results_refused s e h = rw h
