-- Every number of a row but the first has a comma before it. So behind the first number a row is a comma and a number,
-- again and again, and at last the line end.
use Prim.Native.Nat.{ℕ, ◌+◌, ◌≤◌, ◌<◌}
use mathlib.Core.Path.{◌≡◌, refl}
use mathlib.Core.List.{List, [], ◌∷◌, ◌++◌, append_assoc}
use native.Mathlib.Numerals.{add-one}
use native.Mathlib.Omega.{arith}
use lib.ListN.{length, drop, get_or, drop_of_length-le}
use lib.Seq.{drop-cons}
use Rattle.text.specs.Text.{comma, line_end, decimal, further_numbers, row}

-- a row behind its first number, from the comma before its number i on
abbrev pub row_from : ℕ → List ℕ → List ℕ
row_from i ns = further_numbers (drop i ns) ++ (line_end ∷ [])

pub row_first : {ns others : List ℕ} {n : ℕ} → ns ≡ n ∷ others → row ns ≡ decimal n ++ row_from 0 others
row_first {others = others} {n = n} is = rw (is, append_assoc)

pub row_next : (i : ℕ) (ns : List ℕ) → i < length ns
    → row_from i ns ≡ (comma ∷ []) ++ (decimal (get_or ns i 0) ++ row_from (i + 1) ns)
row_next i ns more = rw (drop-cons ns i 0, add-one, append_assoc)

pub row_end : (i : ℕ) (ns : List ℕ) → length ns ≤ i → line_end ∷ [] ≡ row_from i ns
row_end i ns none = rw (drop_of_length-le ns none)

pub row_none : (ns : List ℕ) → length ns ≡ 0 → line_end ∷ [] ≡ row ns
row_none [] none = refl
row_none (n ∷ ns) none = absurd (omega arith)
