-- A text without an x has parts without one, and such a part is a value where it is one in decimal, with the same
-- number. So each line, and the sheet, is read as in decimal alone.
use Prim.Native.Nat.{ℕ, zero, suc, ◌+◌}
use mathlib.Core.Path.{◌≡◌, refl}
use mathlib.Core.Bool.{Bool, true, false}
use mathlib.Core.List.{List, [], ◌∷◌}
use lib.Dec.{eqb}
use lib.ListN.{length, drop}
use Rattle.text.specs.Text.{comma, line_end, Lacks, into_parts, parts}
use Rattle.text.specs.Forms.{reads_each, numbers_of, reads_line, row_in, rows_of, rows_in, lines_verdict, verdict_of}
use Rattle.text.specs.Sheet.{first_line, command_sheet, decimal_sheet}
use Rattle.text.proofs.Laws.Values.{plain_value, plain_number}
use Rattle.text.proofs.Laws.Splits.{LackAll}
use Rattle.text.proofs.Laws.Lines.{decimals, eithers}

-- the parts of a text lack what it lacks
into_lacks : (x : ℕ) (t : Bool) (b : ℕ) (ps : List (List ℕ)) → (b ≡ x → ⊥) → LackAll x ps
    → LackAll x (into_parts t b ps)
into_lacks x true b ps n h = (tt, h)
into_lacks x false b [] n h = ((n, tt), tt)
into_lacks x false b (p ∷ ps) n h = ((n, h.0), h.1)

parts_lack : (x sep : ℕ) (bs : List ℕ) → Lacks x bs → LackAll x (parts sep bs)
parts_lack x sep [] h = (tt, tt)
parts_lack x sep (b ∷ bs) h = into_lacks x (eqb b sep) b (parts sep bs) h.0 (parts_lack x sep bs h.1)

rest_lacks : (x k : ℕ) (bs : List ℕ) → Lacks x bs → Lacks x (drop k bs)
rest_lacks x zero bs h = h
rest_lacks x (suc k) [] h = tt
rest_lacks x (suc k) (b ∷ bs) h = rest_lacks x k bs h.1

each_plain : (k : ℕ) (ps : List (List ℕ)) → LackAll 120 ps
    → (reads_each (eithers k) ps ≡ reads_each (decimals k) ps)
    × (numbers_of (eithers k) ps ≡ numbers_of (decimals k) ps)
each_plain zero [] h = (refl, refl)
each_plain zero (p ∷ ps) h = (refl, refl)
each_plain (suc k) [] h = (refl, refl)
each_plain (suc k) (p ∷ ps) h =
    let rest = each_plain k ps h.1 in
    (rw (plain_value p h.0, rest.0) refl, rw (plain_number p h.0, rest.1) refl)

line_plain : (l : List ℕ) → Lacks 120 l
    → (reads_line command_sheet l ≡ reads_line decimal_sheet l) × (row_in command_sheet l ≡ row_in decimal_sheet l)
unfolding reads_line row_in command_sheet decimal_sheet
line_plain l h = each_plain 9 (parts comma l) (parts_lack 120 comma l h)

lines_plain : (k : ℕ) (ls : List (List ℕ)) → LackAll 120 ls
    → (lines_verdict command_sheet k ls ≡ lines_verdict decimal_sheet k ls)
    × (rows_of command_sheet ls ≡ rows_of decimal_sheet ls)
lines_plain k [] h = (refl, refl)
lines_plain k (l ∷ []) h = (refl, refl)
lines_plain k (l ∷ m ∷ ls) h =
    let line = line_plain l h.0 in
    let rest = lines_plain (k + 1) (m ∷ ls) h.1 in
    (rw (line.0, rest.0) refl, rw (line.1, rest.1) refl)

pub sheet_plain : (s : List ℕ) → Lacks 120 s
    → (verdict_of command_sheet s ≡ verdict_of decimal_sheet s) × (rows_in command_sheet s ≡ rows_in decimal_sheet s)
unfolding verdict_of command_sheet decimal_sheet
sheet_plain s h =
    let rest = drop (length first_line) s in
    let plain = rest_lacks 120 (length first_line) s h in
    let lines = lines_plain 2 (parts line_end rest) (parts_lack 120 line_end rest plain) in
    (rw lines.0 refl, lines.1)
