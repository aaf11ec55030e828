-- value_of is made by the test is_value, so what it gives tells the test, and its number is the text's.
use mathlib.Core.Path.{◌≡◌, refl}
use mathlib.Core.Bool.{Bool, true, false, cond}
use mathlib.Core.List.{List}
use Prim.Native.Nat.{ℕ}
use Rattle.std.specs.Prelude.{Some, None}
use Rattle.text.specs.Text.{is_value, number_of, value_of}

module _ (bs : List ℕ) where
  pub value_some : (n : ℕ) → value_of bs ≡ Some n → (is_value bs ≡ true) × (number_of bs ≡ n)
  unfolding value_of
  value_some n h = by (is_value bs) refl h
    where
      by : (t : Bool) → is_value bs ≡ t → cond t (Some (number_of bs)) None ≡ Some n
          → (is_value bs ≡ true) × (number_of bs ≡ n)
      by true e h = (e, cc)
      by false e h = cc

  pub value_none : value_of bs ≡ None → is_value bs ≡ false
  unfolding value_of
  value_none h = by (is_value bs) refl h
    where
      by : (t : Bool) → is_value bs ≡ t → cond t (Some (number_of bs)) None ≡ None → is_value bs ≡ false
      by true e h = cc
      by false e h = e
