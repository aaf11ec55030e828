-- A line of values, each without comma and line end, is cut at its commas into just these values. So where every form
-- of value is read as it is written, a line is too.
use Prim.Native.Nat.{ℕ, suc, ◌+◌, ◌*◌, ◌^◌, ◌≤◌, ◌<◌}
use mathlib.Core.Path.{◌≡◌, refl, sym, ap, ◌∙◌}
use mathlib.Core.Bool.{true, false≢true}
use mathlib.Core.List.{List, [], ◌∷◌, ◌++◌}
use mathlib.Core.Logic.{inl, inr, ⊎_elim}
use native.Mathlib.Omega.{arith}
use lib.ListN.{length, drop, length-append}
use Rattle.text.specs.Text.{comma, line_end, number_after, is_number, starts_with, base_prefix, is_value, number_of}
use Rattle.text.specs.Text.{Lacks, parts, digits_in, decimal, base16}
use Rattle.text.specs.Forms.{ValueForm, decimal_value, base16_value, either_value, Form, WritesEach, with_commas}
use Rattle.text.specs.Forms.{WritesLine, reads_each, numbers_of, reads_line, row_in}
use Rattle.model.proofs.Laws.Testing.{both, both_true}
use Rattle.text.proofs.Laws.Digits.{number_in}
use Rattle.text.proofs.Laws.Decimal.{decimal_some, decimal_digits, decimal_is_number, number_of_decimal}
use Rattle.text.proofs.Laws.Decimal.{decimal_of_number, sixteen_digits, sixteen_is_number, number_of_sixteen}
use Rattle.text.proofs.Laws.Decimal.{sixteen_of_number}
use Rattle.text.proofs.Laws.Values.{decimal_value_lem, base16_value_lem, value_either}
use Rattle.text.proofs.Laws.Splits.{LackAll, digits_lack, starts_in, commas_of_parts, parts_of_commas}
use Rattle.text.proofs.Laws.Splits.{commas_lack}

-- a form of value that is read as it is written, and that has a byte, no comma and no line end
pub record IsInverse (v : ValueForm) : Type 0 where
  pub writes : (bs : List ℕ) → v.reads bs ≡ true → v.Writes bs (v.number bs)
  pub reads : (bs : List ℕ) (n : ℕ) → v.Writes bs n → (v.reads bs ≡ true) × (v.number bs ≡ n)
  pub some : (bs : List ℕ) (n : ℕ) → v.Writes bs n → 0 < length bs
  pub lacks : (bs : List ℕ) (n : ℕ) → v.Writes bs n → Lacks comma bs × Lacks line_end bs

pub decimal_inverse : IsInverse decimal_value
decimal_inverse = record {
  writes = λ bs h. (sym (decimal_of_number bs h), (number_in 10 bs h).2);
  reads = λ bs n w.
      (rw w.0 (decimal_is_number n w.1), rw w.0 (number_of_decimal n w.1));
  some = λ bs n w. rw w.0 (decimal_some n);
  lacks = λ bs n w.
      let digits = decimal_digits n w.1 in
      rw w.0 (
        digits_lack 10 comma (decimal n) (omega arith) (omega arith) digits,
        digits_lack 10 line_end (decimal n) (omega arith) (omega arith) digits,
      );
}

-- base 16: the prefix and the digits
prefixed : (bs : List ℕ) → starts_with base_prefix bs ≡ true → is_number 16 (drop 2 bs) ≡ true
    → bs ≡ base16 (number_after 16 0 (drop 2 bs))
unfolding base16
prefixed bs starts h =
    starts_in base_prefix bs starts
    ∙ ap (λ (x : List ℕ). base_prefix ++ x) (sym (sixteen_of_number (drop 2 bs) h))

base16_reads : (n : ℕ) → n < 2 ^ 64
    → (base16_value.reads (base16 n) ≡ true) × (base16_value.number (base16 n) ≡ n)
unfolding base16
base16_reads n l = (rw (sixteen_is_number n l) refl, number_of_sixteen n l)

base16_some : (n : ℕ) → 0 < length (base16 n)
unfolding base16
base16_some n = omega arith

base16_lacks : (sep n : ℕ) → sep < 48 → n < 2 ^ 64 → Lacks sep (base16 n)
unfolding base16
base16_lacks sep n low l =
    let digits = digits_lack 16 sep (digits_in 16 16 n) (omega arith) low (sixteen_digits n l) in
    ((λ e. omega arith), ((λ e. omega arith), digits))

pub base16_inverse : IsInverse base16_value
base16_inverse = record {
  writes = λ bs h.
      let tests = both (starts_with base_prefix bs) (is_number 16 (drop 2 bs)) h in
      (prefixed bs tests.0 tests.1, (number_in 16 (drop 2 bs) tests.1).2);
  reads = λ bs n w. rw w.0 (base16_reads n w.1);
  some = λ bs n w. rw w.0 (base16_some n);
  lacks = λ bs n w. rw w.0 (base16_lacks comma n (omega arith) w.1, base16_lacks line_end n (omega arith) w.1);
}

-- either: a value is of one writing
either_writes : (bs : List ℕ) → is_value bs ≡ true → either_value.Writes bs (number_of bs)
either_writes bs h =
    ⊎_elim
    (λ ten. rw (decimal_value_lem bs ten).1 (inl (decimal_inverse.writes bs ten)))
    (λ sixteen.
    rw (base16_value_lem bs sixteen.0 sixteen.1).1
    (inr (base16_inverse.writes bs (both_true _ _ sixteen.0 sixteen.1))))
    (value_either bs h)

either_reads : (bs : List ℕ) (n : ℕ) → either_value.Writes bs n → (is_value bs ≡ true) × (number_of bs ≡ n)
either_reads bs n (inl ten) =
    let read = decimal_inverse.reads bs n ten in
    let value = decimal_value_lem bs read.0 in
    (value.0, value.1 ∙ read.1)
either_reads bs n (inr sixteen) =
    let read = base16_inverse.reads bs n sixteen in
    let tests = both (starts_with base_prefix bs) (is_number 16 (drop 2 bs)) read.0 in
    let value = base16_value_lem bs tests.0 tests.1 in
    (value.0, value.1 ∙ read.1)

pub either_inverse : IsInverse either_value
either_inverse = record {
  writes = either_writes;
  reads = either_reads;
  some = λ bs n. ⊎_elim (decimal_inverse.some bs n) (base16_inverse.some bs n);
  lacks = λ bs n. ⊎_elim (decimal_inverse.lacks bs n) (base16_inverse.lacks bs n);
}

abbrev pub AllInverse : List ValueForm → Type 0
AllInverse [] = Unit {0}
AllInverse (v ∷ vs) = IsInverse v × AllInverse vs

-- texts that write numbers read as these numbers
pub each_reads : (vs : List ValueForm) (ts : List (List ℕ)) (ns : List ℕ) → AllInverse vs → WritesEach vs ts ns
    → (reads_each vs ts ≡ true) × (numbers_of vs ts ≡ ns)
each_reads [] [] [] i w = (refl, refl)
each_reads [] [] (n ∷ ns) i w = absurd w
each_reads [] (t ∷ ts) ns i w = absurd w
each_reads (v ∷ vs) [] ns i w = absurd w
each_reads (v ∷ vs) (t ∷ ts) [] i w = absurd w
each_reads (v ∷ vs) (t ∷ ts) (n ∷ ns) i w =
    let one = i.0.reads t n w.0 in
    let rest = each_reads vs ts ns i.1 w.1 in
    (both_true _ _ one.0 rest.0, rw (one.1, rest.1) refl)

-- texts that read as numbers write them
pub each_writes : (vs : List ValueForm) (ts : List (List ℕ)) → AllInverse vs → reads_each vs ts ≡ true
    → WritesEach vs ts (numbers_of vs ts)
each_writes [] [] i h = tt
each_writes [] (t ∷ ts) i h = absurd (false≢true h)
each_writes (v ∷ vs) [] i h = absurd (false≢true h)
each_writes (v ∷ vs) (t ∷ ts) i h =
    let tests = both (v.reads t) (reads_each vs ts) h in
    (i.0.writes t tests.0, each_writes vs ts i.1 tests.1)

-- they are as many as the places, with a byte each, and have neither comma nor line end
pub each_lacks : (vs : List ValueForm) (ts : List (List ℕ)) (ns : List ℕ) → AllInverse vs → WritesEach vs ts ns
    → LackAll comma ts × LackAll line_end ts
each_lacks [] [] [] i w = (tt, tt)
each_lacks [] [] (n ∷ ns) i w = absurd w
each_lacks [] (t ∷ ts) ns i w = absurd w
each_lacks (v ∷ vs) [] ns i w = absurd w
each_lacks (v ∷ vs) (t ∷ ts) [] i w = absurd w
each_lacks (v ∷ vs) (t ∷ ts) (n ∷ ns) i w =
    let one = i.0.lacks t n w.0 in
    let rest = each_lacks vs ts ns i.1 w.1 in
    ((one.0, rest.0), (one.1, rest.1))

pub each_counts : (vs : List ValueForm) (ts : List (List ℕ)) (ns : List ℕ) → WritesEach vs ts ns
    → (length ts ≡ length vs) × (length ns ≡ length vs)
each_counts [] [] [] w = (refl, refl)
each_counts [] [] (n ∷ ns) w = absurd w
each_counts [] (t ∷ ts) ns w = absurd w
each_counts (v ∷ vs) [] ns w = absurd w
each_counts (v ∷ vs) (t ∷ ts) [] w = absurd w
each_counts (v ∷ vs) (t ∷ ts) (n ∷ ns) w =
    let rest = each_counts vs ts ns w.1 in
    (ap suc rest.0, ap suc rest.1)

-- a line of n values has 2 n - 1 bytes at least
each_long : (vs : List ValueForm) (ts : List (List ℕ)) (ns : List ℕ) → AllInverse vs → WritesEach vs ts ns
    → 2 * length vs ≤ length (with_commas ts) + 1
each_long [] [] [] i w = omega arith
each_long [] [] (n ∷ ns) i w = absurd w
each_long [] (t ∷ ts) ns i w = absurd w
each_long (v ∷ vs) [] ns i w = absurd w
each_long (v ∷ vs) (t ∷ ts) [] i w = absurd w
each_long (v ∷ []) (t ∷ []) (n ∷ ns) i w = omega (arith, i.0.some t n w.0)
each_long (v ∷ []) (t ∷ u ∷ ts) (n ∷ ns) i w = absurd w.1
each_long (v ∷ x ∷ vs) (t ∷ []) (n ∷ ns) i w = absurd w.1
each_long (v ∷ x ∷ vs) (t ∷ u ∷ ts) (n ∷ ns) i w =
    rw (length-append t (comma ∷ with_commas (u ∷ ts)))
    (omega (arith, i.0.some t n w.0, each_long (x ∷ vs) (u ∷ ts) ns i.1 w.1))

-- the line
module _ (f : Form) (inverse : AllInverse f.values) (some : 0 < length f.values) where
  -- what a line is in front of its line end
  pub record LineIn (bs ns : List ℕ) : Type 0 where
    pub line : List ℕ
    pub whole : bs ≡ line ++ (line_end ∷ [])
    pub lacks : Lacks line_end line
    pub reads : reads_line f line ≡ true
    pub row : row_in f line ≡ ns
    pub long : 2 * length f.values ≤ length line + 1

  pub line_in : (bs ns : List ℕ) → WritesLine f.values bs ns → LineIn bs ns
  unfolding reads_line row_in
  line_in bs ns w =
      let vs = f.values in
      let counts = each_counts vs w.texts ns w.each in
      let lacks = each_lacks vs w.texts ns inverse w.each in
      let back = parts_of_commas w.texts (omega arith) lacks.0 in
      let read = each_reads vs w.texts ns inverse w.each in
      record {
        line = with_commas w.texts;
        whole = w.line;
        lacks = commas_lack w.texts lacks.1;
        reads = rw back read.0;
        row = rw back read.1;
        long = each_long vs w.texts ns inverse w.each;
      }

  pub line_written : (l : List ℕ) → reads_line f l ≡ true → WritesLine f.values (l ++ (line_end ∷ [])) (row_in f l)
  unfolding reads_line row_in
  line_written l h = record {
    texts = parts comma l;
    line = rw (commas_of_parts l) refl;
    each = each_writes f.values (parts comma l) inverse h;
  }

  pub line_long : (l : List ℕ) → reads_line f l ≡ true → (2 * length f.values ≤ length l + 1) × Lacks line_end l
  unfolding reads_line
  line_long l h =
      let vs = f.values in
      let ts = parts comma l in
      let each = each_writes vs ts inverse h in
      let long = each_long vs ts (numbers_of vs ts) inverse each in
      let lacks = commas_lack ts (each_lacks vs ts (numbers_of vs ts) inverse each).1 in
      (rw (commas_of_parts l) at long, rw (commas_of_parts l) at lacks)
