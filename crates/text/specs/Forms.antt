-- Sheets of numbers: their form, what one says, what a reader finds in it, and the answer to it as a whole, numbers 1
-- to 3. Document 01, "Command sheet" and "Where each command is checked"; document 02, A.8, has a second sheet, for
-- which "the size, first-line and form checks carry over".
use Rattle.std.specs.Prelude.{ℕ, ◌+◌, ◌^◌, ◌<◌, ◌≡◌, ◌⊎◌, List, [], ◌∷◌, ◌++◌, Bool, true, false, ◌&&◌, cond, eqb}
use Rattle.std.specs.Prelude.{ltb, length, drop, Result, Ok, Err}
use Rattle.text.specs.declared.SheetRefusal.{SheetRefusal}
use Rattle.text.specs.declared.SheetRefusal.TheVariants.{TooLong, FirstLine, ValueLine}
use Rattle.text.specs.Text.{comma, line_end, number_after, is_number, starts_with, base_prefix, is_value, number_of}
use Rattle.text.specs.Text.{parts, decimal, base16}

-- a value: which bytes write which number; and for a reader, which bytes are a value, and what number they read as
pub record ValueForm : Type 1 where
  pub Writes : List ℕ → ℕ → Type 0
  pub reads : List ℕ → Bool
  pub number : List ℕ → ℕ

-- "A value is 0 or has no leading zero, and is below 2^64", in decimal
abbrev pub decimal_value : ValueForm
decimal_value = record {
  Writes = λ bs n. (bs ≡ decimal n) × (n < 2 ^ 64);
  reads = is_number 10;
  number = number_after 10 0;
}

-- the same in base 16, behind 0x; document 02, A.6
abbrev pub base16_value : ValueForm
base16_value = record {
  Writes = λ bs n. (bs ≡ base16 n) × (n < 2 ^ 64);
  reads = λ bs. starts_with base_prefix bs && is_number 16 (drop 2 bs);
  number = λ bs. number_after 16 0 (drop 2 bs);
}

-- either
abbrev pub either_value : ValueForm
either_value = record {
  Writes = λ bs n. decimal_value.Writes bs n ⊎ base16_value.Writes bs n;
  reads = is_value;
  number = number_of;
}

-- a sheet: its first line with its line end, and the values of a line
pub record Form : Type 1 where
  pub first_line : List ℕ
  pub values : List ValueForm

-- ---- what a sheet says, whoever reads it

-- texts write numbers, each in the form of its place
abbrev pub WritesEach : List ValueForm → List (List ℕ) → List ℕ → Type 0
WritesEach [] [] [] = Unit {0}
WritesEach [] [] (n ∷ ns) = ⊥
WritesEach [] (t ∷ ts) ns = ⊥
WritesEach (v ∷ vs) [] ns = ⊥
WritesEach (v ∷ vs) (t ∷ ts) [] = ⊥
WritesEach (v ∷ vs) (t ∷ ts) (n ∷ ns) = v.Writes t n × WritesEach vs ts ns

-- texts with commas between them
abbrev pub with_commas : List (List ℕ) → List ℕ
with_commas [] = []
with_commas (t ∷ []) = t
with_commas (t ∷ u ∷ ts) = t ++ (comma ∷ with_commas (u ∷ ts))

-- these bytes are a value line of these numbers, its line end included
pub record WritesLine (vs : List ValueForm) (bs ns : List ℕ) : Type 0 where
  pub texts : List (List ℕ)
  pub line : bs ≡ with_commas texts ++ (line_end ∷ [])
  pub each : WritesEach vs texts ns

-- a text in two parts, one thing holding of the first and another of the second
pub record Cut (P Q : List ℕ → Type 0) (bs : List ℕ) : Type 0 where
  pub front : List ℕ
  pub back : List ℕ
  pub whole : bs ≡ front ++ back
  pub first : P front
  pub second : Q back

-- value lines, one behind the other
abbrev pub WritesLines : List ValueForm → List ℕ → List (List ℕ) → Type 0
WritesLines vs bs [] = bs ≡ []
WritesLines vs bs (ns ∷ rows) = Cut (λ line. WritesLine vs line ns) (λ lines. WritesLines vs lines rows) bs

-- these bytes are a sheet of these rows of numbers
abbrev pub WritesSheet : Form → List ℕ → List (List ℕ) → Type 0
WritesSheet f s rows = Cut (λ line. line ≡ f.first_line) (λ lines. WritesLines f.values lines rows) s

-- ---- what a reader finds

-- texts are values, as many as there are places, each in the form of its place
abbrev pub reads_each : List ValueForm → List (List ℕ) → Bool
reads_each [] [] = true
reads_each [] (t ∷ ts) = false
reads_each (v ∷ vs) [] = false
reads_each (v ∷ vs) (t ∷ ts) = v.reads t && reads_each vs ts

abbrev pub numbers_of : List ValueForm → List (List ℕ) → List ℕ
numbers_of [] ts = []
numbers_of (v ∷ vs) [] = []
numbers_of (v ∷ vs) (t ∷ ts) = v.number t ∷ numbers_of vs ts

-- a value line, without its line end, and its numbers
unfoldable pub reads_line : Form → List ℕ → Bool
reads_line f bs = reads_each f.values (parts comma bs)

unfoldable pub row_in : Form → List ℕ → List ℕ
row_in f bs = numbers_of f.values (parts comma bs)

-- the rows of the value lines; what stands behind the last line end is none
abbrev pub rows_of : Form → List (List ℕ) → List (List ℕ)
rows_of f [] = []
rows_of f (l ∷ []) = []
rows_of f (l ∷ m ∷ ls) = row_in f l ∷ rows_of f (m ∷ ls)

-- the rows of an accepted sheet
abbrev pub rows_in : Form → List ℕ → List (List ℕ)
rows_in f s = rows_of f (parts line_end (drop (length f.first_line) s))

-- ---- the answer to it

-- the number of a refusal, and the line where it stands: 1 over 65,536 bytes (line 0); 2 first line differs (line 1);
-- 3 a value line of another form (its line)
abbrev pub refusal_number : SheetRefusal → ℕ
refusal_number TooLong = 1
refusal_number FirstLine = 2
refusal_number (ValueLine line) = 3

abbrev pub refusal_line : SheetRefusal → ℕ
refusal_line TooLong = 0
refusal_line FirstLine = 1
refusal_line (ValueLine line) = line

-- the sheet is accepted, or refused
abbrev pub Verdict : Type 0
Verdict = Result (Unit {0}) SheetRefusal

abbrev pub sheet_accepted : Verdict
sheet_accepted = Ok tt

-- the value lines from line number k on; what stands behind the last line end has to be empty
abbrev pub lines_verdict : Form → ℕ → List (List ℕ) → Verdict
lines_verdict f k [] = sheet_accepted
lines_verdict f k (l ∷ []) = cond (eqb (length l) 0) sheet_accepted (Err (ValueLine k))
lines_verdict f k (l ∷ m ∷ ls) = cond (reads_line f l) (lines_verdict f (k + 1) (m ∷ ls)) (Err (ValueLine k))

-- the size, then the first line
unfoldable pub head_verdict : (first_line s : List ℕ) → Verdict
head_verdict first_line s =
    cond (ltb 65536 (length s)) (Err TooLong) (cond (starts_with first_line s) sheet_accepted (Err FirstLine))

-- a verdict, and where it is no refusal the next
abbrev pub verdict_then : Verdict → Verdict → Verdict
verdict_then (Ok u) next = next
verdict_then (Err e) next = Err e

-- the size, the first line, and the first value line of another form
unfoldable pub verdict_of : Form → List ℕ → Verdict
verdict_of f s =
    verdict_then
    (head_verdict f.first_line s)
    (lines_verdict f 2 (parts line_end (drop (length f.first_line) s)))
