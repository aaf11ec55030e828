-- The lines of the command sheet. Nine numbers in decimal with commas between them are a line that writes them, and in
-- decimal there is no other, since a number has one text.
use Prim.Native.Nat.{ℕ, zero, suc, ◌+◌, ◌^◌, ◌≤◌}
use mathlib.Core.Path.{◌≡◌, refl, sym, ap, ◌∙◌}
use mathlib.Core.Bool.{Bool, true}
use mathlib.Core.List.{List, [], ◌∷◌, ◌++◌, map, append-nil}
use mathlib.Core.Logic.{inl}
use native.Mathlib.Omega.{arith}
use lib.Dec.{ltb}
use lib.ListN.{length, get_or, drop, replicate, drop_of_length-le}
use lib.Seq.{drop-cons}
use borrow.Author.Tests.{ltb-true, lt-ltb}
use Rattle.std.specs.Prelude.{Some}
use Rattle.model.specs.declared.Command.{Command}
use Rattle.model.specs.Tests.{every}
use Rattle.text.specs.Text.{comma, line_end, is_value, Lacks, parts, decimal, numbers, row}
use Rattle.text.specs.Forms.{ValueForm, decimal_value, either_value, WritesEach, with_commas, WritesLine}
use Rattle.text.specs.Forms.{reads_each, numbers_of, reads_line, row_in}
use Rattle.text.specs.Sheet.{command_sheet, is_line, command_of, command_in, line_of, fields_of}
use Rattle.model.proofs.Laws.Testing.{both, both_true}
use Rattle.text.proofs.Laws.Splits.{LackAll, one_part, parts_of_commas, commas_lack}
use Rattle.text.proofs.Laws.FormLines.{AllInverse, either_inverse, each_reads, each_lacks, each_counts}
use Rattle.text.proofs.Laws.FormLines.{line_long}

-- a value is one part
pub value_one_part : (bs : List ℕ) → is_value bs ≡ true → parts comma bs ≡ bs ∷ []
value_one_part bs h = one_part comma bs (either_inverse.lacks bs _ (either_inverse.writes bs h)).0

-- values in decimal, and in either writing
abbrev pub decimals : ℕ → List ValueForm
decimals k = replicate k decimal_value

abbrev pub eithers : ℕ → List ValueForm
eithers k = replicate k either_value

pub eithers_inverse : (k : ℕ) → AllInverse (eithers k)
eithers_inverse zero = tt
eithers_inverse (suc k) = (either_inverse, eithers_inverse k)

-- what is written in decimal is written in either
pub decimals_eithers : (k : ℕ) (ts : List (List ℕ)) (ns : List ℕ) → WritesEach (decimals k) ts ns
    → WritesEach (eithers k) ts ns
decimals_eithers zero [] [] w = tt
decimals_eithers zero [] (n ∷ ns) w = absurd w
decimals_eithers zero (t ∷ ts) ns w = absurd w
decimals_eithers (suc k) [] ns w = absurd w
decimals_eithers (suc k) (t ∷ ts) [] w = absurd w
decimals_eithers (suc k) (t ∷ ts) (n ∷ ns) w = (inl w.0, decimals_eithers k ts ns w.1)

-- numbers that are below 2^64
abbrev pub all_fit : List ℕ → Bool
all_fit ns = every (map (λ n. ltb n (2 ^ 64)) ns)

-- each is written by its decimal, and by nothing else
decimal_each : (ns : List ℕ) → all_fit ns ≡ true → WritesEach (decimals (length ns)) (map decimal ns) ns
decimal_each [] h = tt
decimal_each (n ∷ ns) h =
    let tests = both (ltb n (2 ^ 64)) (all_fit ns) h in
    ((refl, ltb-true n (2 ^ 64) tests.0), decimal_each ns tests.1)

each_decimal : (k : ℕ) (ts : List (List ℕ)) (ns : List ℕ) → WritesEach (decimals k) ts ns
    → (ts ≡ map decimal ns) × (all_fit ns ≡ true)
each_decimal zero [] [] w = (refl, refl)
each_decimal zero [] (n ∷ ns) w = absurd w
each_decimal zero (t ∷ ts) ns w = absurd w
each_decimal (suc k) [] ns w = absurd w
each_decimal (suc k) (t ∷ ts) [] w = absurd w
each_decimal (suc k) (t ∷ ts) (n ∷ ns) w =
    let rest = each_decimal k ts ns w.1 in
    (rw (w.0.0, rest.0) refl, both_true _ _ (lt-ltb n (2 ^ 64) w.0.1) rest.1)

pub numbers_commas : (ns : List ℕ) → numbers ns ≡ with_commas (map decimal ns)
numbers_commas [] = refl
numbers_commas (n ∷ []) = append-nil (decimal n)
numbers_commas (n ∷ m ∷ ms) = ap (λ (x : List ℕ). decimal n ++ (comma ∷ x)) (numbers_commas (m ∷ ms))

-- a row in decimal is a line
pub row_writes : (ns : List ℕ) → all_fit ns ≡ true → WritesLine (eithers (length ns)) (row ns) ns
row_writes ns h = record {
  texts = map decimal ns;
  line = ap (λ (x : List ℕ). x ++ (line_end ∷ [])) (numbers_commas ns);
  each = decimals_eithers (length ns) (map decimal ns) ns (decimal_each ns h);
}

-- and a line in decimal is a row
pub line_is_row : (k : ℕ) (bs ns : List ℕ) → WritesLine (decimals k) bs ns → (bs ≡ row ns) × (all_fit ns ≡ true)
line_is_row k bs ns w =
    let each = each_decimal k w.texts ns w.each in
    (w.line ∙ rw (each.0, numbers_commas ns) refl, each.1)

-- texts that write nine numbers, in whichever writing, make a line that reads as their command
module _ (ts : List (List ℕ)) (ns : List ℕ) (w : WritesEach (eithers 9) ts ns) where
  lacks : LackAll comma ts × LackAll line_end ts
  lacks = each_lacks (eithers 9) ts ns (eithers_inverse 9) w

  texts_parts : parts comma (with_commas ts) ≡ ts
  texts_parts = parts_of_commas ts (omega (arith, (each_counts (eithers 9) ts ns w).0)) lacks.0

  read : (reads_each (eithers 9) ts ≡ true) × (numbers_of (eithers 9) ts ≡ ns)
  read = each_reads (eithers 9) ts ns (eithers_inverse 9) w

  pub texts_ok : is_line (with_commas ts) ≡ true
  unfolding reads_line command_sheet
  texts_ok = rw texts_parts read.0

  texts_command : command_in (with_commas ts) ≡ command_of ns
  unfolding row_in command_sheet
  texts_command = rw texts_parts (ap command_of read.1)

  pub texts_line : line_of (with_commas ts) ≡ Some (command_of ns)
  unfolding line_of
  texts_line = rw (texts_ok, texts_command)

  pub texts_lack_end : Lacks line_end (with_commas ts)
  texts_lack_end = commas_lack ts lacks.1

-- so does the line of a command in decimal
module _ (c : Command) (h : all_fit (fields_of c) ≡ true) where
  abbrev texts : List (List ℕ)
  texts = map decimal (fields_of c)

  written : WritesEach (eithers 9) texts (fields_of c)
  written = decimals_eithers 9 texts (fields_of c) (decimal_each (fields_of c) h)

  pub line_ok : is_line (numbers (fields_of c)) ≡ true
  line_ok = rw (numbers_commas (fields_of c)) (texts_ok texts (fields_of c) written)

  pub line_lacks_end : Lacks line_end (numbers (fields_of c))
  line_lacks_end = rw (numbers_commas (fields_of c)) (texts_lack_end texts (fields_of c) written)

  pub line_of_command : line_of (numbers (fields_of c)) ≡ Some c
  line_of_command = rw (numbers_commas (fields_of c)) (texts_line texts (fields_of c) written)

-- the k numbers of a list from a place on, as a command is made of nine
abbrev places : ℕ → ℕ → List ℕ → List ℕ
places zero i ns = []
places (suc k) i ns = get_or ns i 0 ∷ places k (suc i) ns

all_places : (k i : ℕ) (ns : List ℕ) → i + k ≡ length ns → places k i ns ≡ drop i ns
all_places zero i ns h = let end : length ns ≤ i = omega arith in rw (drop_of_length-le ns end)
all_places (suc k) i ns h = rw (drop-cons ns i 0 (omega arith), all_places k (suc i) ns (omega arith))

pub fields_of_nine : (ns : List ℕ) → length ns ≡ 9 → fields_of (command_of ns) ≡ ns
fields_of_nine ns nine = all_places 9 0 ns (sym nine)

-- a line has 17 bytes at least, and no line end
pub line_is_long : (l : List ℕ) → is_line l ≡ true → (17 ≤ length l) × Lacks line_end l
unfolding command_sheet
line_is_long l h =
    let line = line_long command_sheet (eithers_inverse 9) (omega arith) l h in
    (omega (arith, line.0), line.1)
