-- A byte other than the separator goes in front of the first part, and a separator begins a new one. So the first
-- part is the text before the first separator, and the other parts are those of the text behind it.
use mathlib.Core.Path.{◌≡◌, refl, ap}
use mathlib.Core.Bool.{Bool, true, false, cond}
use mathlib.Core.List.{List, [], ◌∷◌}
use Prim.Native.Nat.{ℕ, suc, ◌+◌, ◌-◌, ◌≤◌, ◌<◌}
use native.Mathlib.Numerals.{add-one}
use native.Mathlib.Nat.{add-suc, le_of_suc-le-suc}
use native.Mathlib.Omega.{arith}
use lib.Dec.{eqb}
use lib.ListN.{length, get_or, take, drop, length-drop}
use lib.Seq.{take_all, drop-drop}
use Rattle.text.specs.Text.{into_parts, parts, first_part}

-- the first part, byte by byte
pub first_into : (t : Bool) (b : ℕ) (ps : List (List ℕ))
    → get_or (into_parts t b ps) 0 [] ≡ cond t [] (b ∷ get_or ps 0 [])
first_into true b ps = refl
first_into false b [] = refl
first_into false b (p ∷ ps) = refl

take_into : (t : Bool) (b : ℕ) (p bs : List ℕ) → p ≡ take (length p) bs
    → cond t [] (b ∷ p) ≡ take (length (cond t [] (b ∷ p))) (b ∷ bs)
take_into true b p bs h = refl
take_into false b p bs h = ap (◌∷◌ b) h

pub first_take : (sep : ℕ) (bs : List ℕ) → first_part sep bs ≡ take (length (first_part sep bs)) bs
first_take sep [] = refl
first_take sep (b ∷ bs) =
    rw (first_into (eqb b sep) b (parts sep bs)) (take_into (eqb b sep) b (first_part sep bs) bs (first_take sep bs))

-- where no separator follows, the text is one part
last_into : (t : Bool) (b : ℕ) (bs : List ℕ) (ps : List (List ℕ))
    → (length bs ≤ length (get_or ps 0 []) → ps ≡ bs ∷ [])
    → suc (length bs) ≤ length (get_or (into_parts t b ps) 0 [])
    → into_parts t b ps ≡ (b ∷ bs) ∷ []
last_into true b bs ps rest h = absurd (omega arith)
last_into false b bs ps rest h =
    ap (into_parts false b) (rest (le_of_suc-le-suc (rw (first_into false b ps) at h)))

pub one_part : (sep : ℕ) (bs : List ℕ) → length bs ≤ length (first_part sep bs) → parts sep bs ≡ bs ∷ []
one_part sep [] h = refl
one_part sep (b ∷ bs) h = last_into (eqb b sep) b bs (parts sep bs) (one_part sep bs) h

-- where one follows, the others are the parts of the text behind it
more_into : (t : Bool) (sep b : ℕ) (bs : List ℕ)
    → let p = first_part sep bs in
    (length p < length bs → parts sep bs ≡ p ∷ parts sep (drop (suc (length p)) bs))
    → let q = cond t [] (b ∷ p) in
    length q < suc (length bs)
    → into_parts t b (parts sep bs) ≡ q ∷ parts sep (drop (suc (length q)) (b ∷ bs))
more_into true sep b bs rest h = refl
more_into false sep b bs rest h = ap (into_parts false b) (rest (le_of_suc-le-suc h))

pub more_parts : (sep : ℕ) (bs : List ℕ) → let p = first_part sep bs in length p < length bs
    → parts sep bs ≡ p ∷ parts sep (drop (suc (length p)) bs)
more_parts sep [] h = absurd (omega arith)
more_parts sep (b ∷ bs) h =
    let first = first_into (eqb b sep) b (parts sep bs) in
    rw first (more_into (eqb b sep) sep b bs (more_parts sep bs) (rw first at h))

-- the parts from an index on, where the first has n bytes
module _ (sep : ℕ) (s : List ℕ) (at n : ℕ) (e : n ≡ length (first_part sep (drop at s))) where
  pub parts_last : length s ≤ at + n → parts sep (drop at s) ≡ drop at s ∷ []
  parts_last h = one_part sep (drop at s) (omega (arith, length-drop at s))

  pub parts_more : at + n < length s
      → parts sep (drop at s) ≡ first_part sep (drop at s) ∷ parts sep (drop (at + n + 1) s)
  parts_more h =
      let l : length (first_part sep (drop at s)) < length (drop at s) = omega (arith, length-drop at s) in
      rw (add-one, ← add-suc at n, ← drop-drop (suc n) at s, e) (more_parts sep (drop at s) l)

-- the slice from an index up to the end is what is left of the text
pub rest_is : (s : List ℕ) (at : ℕ) → take (length s - at) (drop at s) ≡ drop at s
rest_is s at = take_all (length s - at) (drop at s) (omega (arith, length-drop at s))
