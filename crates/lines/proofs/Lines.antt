-- Eight values at the front of a line and one behind them are nine in all. Without such a front, or with another ninth
-- part, it is no line.
use mathlib.Core.Path.{◌≡◌, refl, sym, ap, ◌∙◌}
use mathlib.Core.Bool.{true, false, and-false}
use mathlib.Core.List.{List, [], ◌∷◌, ◌++◌}
use Prim.Native.Nat.{ℕ, suc, ◌≤◌, ◌<◌}
use native.Mathlib.Decide.{dec_lt}
use native.Mathlib.Omega.{arith}
use lib.ListN.{length, drop, set}
use lib.Seq.{set_at}
use Rattle.std.specs.Prelude.{Some, None, Ok, Err}
use Rattle.text.specs.Text.{comma, is_value, value_of, parts, first_part}
use Rattle.text.specs.Forms.{either_value, reads_each, numbers_of, reads_line, row_in}
use Rattle.text.specs.Sheet.{command_sheet, command_of, line_of}
use Rattle.text.proofs.Laws.Splits.{parts_some}
use Rattle.text.proofs.Laws.Lines.{value_one_part, eithers}
use Rattle.values.specs.Fronts.{FrontOf}
use Rattle.text.proofs.Laws.FirstPart.{one_part, more_parts}
use Rattle.digits.proofs.Values.{value_some, value_none}
use Rattle.values.proofs.Behind.{Behind, behind_front, no_front}

-- nine values are a line
line_nine : (s ns : List ℕ) → reads_each (eithers 9) (parts comma s) ≡ true
    → numbers_of (eithers 9) (parts comma s) ≡ ns
    → Some (command_of ns) ≡ line_of s
unfolding line_of reads_line row_in command_sheet
line_nine s ns reads numbers = rw (reads, numbers) refl

line_none : (s : List ℕ) → reads_each (eithers 9) (parts comma s) ≡ false → None ≡ line_of s
unfolding line_of reads_line row_in command_sheet
line_none s reads = rw reads refl

-- the last place asks for one part, a value
too_many : (p : List ℕ) (ps : List (List ℕ)) → 0 < length ps → reads_each (eithers 1) (p ∷ ps) ≡ false
too_many p [] h = absurd (omega arith)
too_many p (q ∷ ps) h = and-false (is_value p)

last_none : (bs : List ℕ) → is_value bs ≡ false → reads_each (eithers 1) (parts comma bs) ≡ false
last_none bs h =
    let p = first_part comma bs in
    elim (dec_lt (length p) (length bs)) [
      | yes l ↦
          let rest = drop (suc (length p)) bs in
          rw (more_parts comma bs l) (too_many p (parts comma rest) (parts_some comma rest))
      | no l ↦ rw (one_part comma bs (omega arith), h) refl
    ]

-- the places that are lent for the first eight numbers
abbrev eight_places : List ℕ
eight_places = 0 ∷ 0 ∷ 0 ∷ 0 ∷ 0 ∷ 0 ∷ 0 ∷ 0 ∷ []

module _ (s : List ℕ) {ns : List ℕ} where
  pub line_no_front : {at : ℕ} → FrontOf s eight_places ns (Err at) → None ≡ line_of s
  line_no_front front =
      line_none s (no_front either_value [] eight_places 0 (parts comma s) (sym (ap (λ f. f.ok) front)))

  module _ {at : ℕ} (front : FrontOf s eight_places ns (Ok at)) where
    goes_on : Behind (eithers 1) s eight_places 0 (record { ok = true; numbers = ns; end = at })
    goes_on = rw front (behind_front (eithers 1) s eight_places 0 (omega arith) (sym (ap (λ f. f.ok) front)))

    pub front_inside : at ≤ length s
    front_inside = goes_on.inside

    -- the ninth part, up to the end: a value has no comma, and with one there are too many parts
    pub line_last : {n : ℕ} → value_of (drop at s) ≡ Some n → Some (command_of (set (ns ++ (0 ∷ [])) 8 n)) ≡ line_of s
    line_last {n} read =
        let rest = drop at s in
        let value = value_some rest n read in
        let one = value_one_part rest value.0 in
        let row : numbers_of (eithers 9) (parts comma s) ≡ set (ns ++ (0 ∷ [])) 8 n =
        goes_on.numbers ∙ rw (one, set_at ns 0 [] n 8 goes_on.full, value.1) refl in
        line_nine s _ (goes_on.reads ∙ rw (one, value.0) refl) row

    pub line_no_last : value_of (drop at s) ≡ None → None ≡ line_of s
    line_no_last read = line_none s (goes_on.reads ∙ last_none (drop at s) (value_none (drop at s) read))
