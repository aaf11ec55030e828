-- The lines of a sheet are the parts of its text behind the first line, and what stands behind the last line end is
-- empty. So a sheet that writes rows reads as these rows, and an accepted sheet writes the rows that it reads as.
use Prim.Native.Nat.{ℕ, ◌+◌, ◌≤◌, ◌<◌}
use mathlib.Core.Path.{◌≡◌, refl, ◌∙◌}
use mathlib.Core.Bool.{Bool, true, false, cond}
use mathlib.Core.List.{List, [], ◌∷◌, ◌++◌}
use native.Mathlib.Omega.{arith}
use lib.Dec.{eqb, ltb}
use lib.ListN.{length, drop}
use lib.Seq.{append_snoc, drop-append_seam}
use borrow.Author.Tests.{le-ltb, eqb-true, ltb-false}
use Rattle.std.specs.Prelude.{Err}
use Rattle.text.specs.declared.SheetRefusal.{SheetRefusal}
use Rattle.text.specs.declared.SheetRefusal.TheVariants.{TooLong, FirstLine, ValueLine}
use Rattle.text.specs.Text.{line_end, parts, starts_with}
use Rattle.text.specs.Forms.{Form, WritesLines, WritesSheet, reads_line, row_in, rows_of, rows_in}
use Rattle.text.specs.Forms.{Verdict, sheet_accepted, lines_verdict, verdict_then, head_verdict, verdict_of}
use Rattle.text.proofs.Laws.Splits.{joined, joined_parts, first_part_lem, parts_some, starts_in, starts_front}
use Rattle.text.proofs.Laws.FormLines.{AllInverse, LineIn, line_in, line_written}

-- an accepted sheet was not refused at a test
pub passed : (t : Bool) (v : Verdict) (e : SheetRefusal) → cond t v (Err e) ≡ sheet_accepted
    → (t ≡ true) × (v ≡ sheet_accepted)
passed true v e h = (refl, h)
passed false v e h = cc

-- a line in front of others
rows_first : (f : Form) (l : List ℕ) (ps : List (List ℕ)) → 0 < length ps
    → rows_of f (l ∷ ps) ≡ row_in f l ∷ rows_of f ps
rows_first f l [] h = absurd (omega arith)
rows_first f l (p ∷ ps) h = refl

pub verdict_first : (f : Form) (k : ℕ) (l : List ℕ) (ps : List (List ℕ)) → 0 < length ps
    → lines_verdict f k (l ∷ ps) ≡ cond (reads_line f l) (lines_verdict f (k + 1) ps) (Err (ValueLine k))
verdict_first f k l [] h = absurd (omega arith)
verdict_first f k l (p ∷ ps) h = refl

-- the answer to a sheet by its size and its first line
pub by_head : (P : Verdict → Type 0) (f : Form) (s : List ℕ) → P (Err TooLong) → P (Err FirstLine)
    → (length s ≤ 65536
    → starts_with f.first_line s ≡ true
    → P (lines_verdict f 2 (parts line_end (drop (length f.first_line) s))))
    → P (verdict_of f s)
unfolding verdict_of head_verdict
by_head P f s long other lines = by (ltb 65536 (length s)) (starts_with f.first_line s) refl refl
  where
    by : (over starts : Bool) → ltb 65536 (length s) ≡ over → starts_with f.first_line s ≡ starts
        → P (verdict_then (cond over (Err TooLong) (cond starts sheet_accepted (Err FirstLine)))
        (lines_verdict f 2 (parts line_end (drop (length f.first_line) s))))
    by true starts p q = long
    by false false p q = other
    by false true p q = lines (ltb-false _ _ p) q

-- an accepted sheet, as facts
pub record AcceptedBy (f : Form) (s : List ℕ) : Type 0 where
  pub short : length s ≤ 65536
  pub starts : starts_with f.first_line s ≡ true
  pub lines : lines_verdict f 2 (parts line_end (drop (length f.first_line) s)) ≡ sheet_accepted

pub accepted_in : (f : Form) (s : List ℕ) → verdict_of f s ≡ sheet_accepted → AcceptedBy f s
accepted_in f s =
    by_head (λ v. v ≡ sheet_accepted → AcceptedBy f s) f s
    (λ h. cc)
    (λ h. cc)
    (λ short starts lines. record { short = short; starts = starts; lines = lines })

module _ (f : Form) (inverse : AllInverse f.values) (some : 0 < length f.values) where
  -- lines that write rows read as these rows
  abbrev ReadAs : ℕ → List ℕ → List (List ℕ) → Type 0
  ReadAs k bs rows =
      (lines_verdict f k (parts line_end bs) ≡ sheet_accepted) × (rows_of f (parts line_end bs) ≡ rows)

  one_more : (k : ℕ) (bs front back ns : List ℕ) (rows : List (List ℕ)) → bs ≡ front ++ back
      → LineIn f inverse some front ns
      → ReadAs (k + 1) back rows
      → ReadAs k bs (ns ∷ rows)
  one_more k bs front back ns rows whole line rest =
      let cut : parts line_end bs ≡ line.line ∷ parts line_end back =
      rw (whole, line.whole, append_snoc line.line line_end back)
      (first_part_lem line_end line.line back line.lacks)
      in
      let behind = parts_some line_end back in (
        rw (cut, verdict_first f k line.line (parts line_end back) behind, line.reads) rest.0,
        rw (cut, rows_first f line.line (parts line_end back) behind, line.row, rest.1) refl,
      )

  lines_read : (k : ℕ) (bs : List ℕ) (rows : List (List ℕ)) → WritesLines f.values bs rows → ReadAs k bs rows
  lines_read k bs [] w = rw w (refl, refl)
  lines_read k bs (ns ∷ rows) w =
      one_more k bs w.front w.back ns rows w.whole (line_in f inverse some w.front ns w.first)
      (lines_read (k + 1) w.back rows w.second)

  -- and lines that read as rows write them
  lines_written : (k : ℕ) (ps : List (List ℕ)) (bs : List ℕ) → lines_verdict f k ps ≡ sheet_accepted
      → joined line_end ps ≡ line_end ∷ bs
      → WritesLines f.values bs (rows_of f ps)
  lines_written k [] bs h e = cc
  lines_written k ([] ∷ []) bs h e = cc
  lines_written k ((b ∷ l) ∷ []) bs h e =
      let n = length (b ∷ l) in
      let empty = passed (eqb n 0) sheet_accepted (ValueLine k) h in
      absurd (omega (arith, eqb-true n 0 empty.0))
  lines_written k (l ∷ m ∷ ls) bs h e =
      let tests = passed (reads_line f l) (lines_verdict f (k + 1) (m ∷ ls)) (ValueLine k) h in
      let behind = m ++ joined line_end ls in
      record {
        front = l ++ (line_end ∷ []);
        back = behind;
        whole = cc (append_snoc l line_end behind);
        first = line_written f inverse some l tests.0;
        second = lines_written (k + 1) (m ∷ ls) behind tests.1 refl;
      }

  -- the sheet
  pub sheet_read : (s : List ℕ) (rows : List (List ℕ)) → WritesSheet f s rows → length s ≤ 65536
      → (verdict_of f s ≡ sheet_accepted) × (rows_in f s ≡ rows)
  unfolding verdict_of head_verdict
  sheet_read s rows w short =
      let text : s ≡ f.first_line ++ w.back = w.whole ∙ rw w.first refl in
      let behind : drop (length f.first_line) s ≡ w.back = rw text (drop-append_seam f.first_line w.back) in
      let starts : starts_with f.first_line s ≡ true = rw text (starts_front f.first_line w.back) in
      let lines = lines_read 2 w.back rows w.second in
      (rw (le-ltb 65536 (length s) short, starts, behind) lines.0, rw behind lines.1)

  pub sheet_written : (s : List ℕ) → verdict_of f s ≡ sheet_accepted → WritesSheet f s (rows_in f s)
  sheet_written s h =
      let accepted = accepted_in f s h in
      let behind = drop (length f.first_line) s in
      record {
        front = f.first_line;
        back = behind;
        whole = starts_in f.first_line s accepted.starts;
        first = refl;
        second = lines_written 2 (parts line_end behind) behind accepted.lines (joined_parts line_end behind);
      }
