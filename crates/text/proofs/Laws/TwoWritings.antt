-- A value is read as the number that it writes, in either writing, and what is read as a number writes it.
use Prim.Native.Nat.{ℕ}
use mathlib.Core.Path.{◌≡◌, refl}
use mathlib.Core.Bool.{Bool, true, false, cond}
use mathlib.Core.List.{List}
use Rattle.std.specs.Prelude.{Some, None}
use Rattle.text.specs.Text.{is_value, number_of, value_of}
use Rattle.text.specs.Forms.{either_value}
use Rattle.text.proofs.Laws.FormLines.{either_inverse}

module _ (bs : List ℕ) (n : ℕ) where
  pub value_read : either_value.Writes bs n → value_of bs ≡ Some n
  unfolding value_of
  value_read w = let read = either_inverse.reads bs n w in rw (read.0, read.1) refl

  pub value_written : value_of bs ≡ Some n → either_value.Writes bs n
  unfolding value_of
  value_written h = by (is_value bs) refl h
    where
      by : (t : Bool) → is_value bs ≡ t → cond t (Some (number_of bs)) None ≡ Some n → either_value.Writes bs n
      by true e h = let number : number_of bs ≡ n = cc in rw number at (either_inverse.writes bs e)
      by false e h = cc
