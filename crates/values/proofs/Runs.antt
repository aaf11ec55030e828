-- The first index at which a separator stands is the length of the first part.
use mathlib.Core.Path.{◌≡◌, refl, sym, ap, ◌∙◌}
use mathlib.Core.Bool.{Bool, true, false, not, cond}
use mathlib.Core.List.{List, [], ◌∷◌}
use Prim.Native.Nat.{ℕ, ◌+◌, ◌≤◌}
use native.Mathlib.Omega.{arith}
use lib.Dec.{eqb, ltb}
use lib.ListN.{length}
use borrow.Author.Tests.{ltb-false}
use Rattle.std.specs.Prelude.{Some, None}
use Rattle.std.specs.List.{position, position_or_len}
use Rattle.std.specs.Option.{unwrap_or}
use Rattle.std.proofs.lemmas.List.Recursion.{is_position_or_len}
use Rattle.std.proofs.lemmas.List.Sums.{prefix_len-le-length}
use Rattle.text.specs.Text.{parts, first_part}
use Rattle.text.proofs.Laws.FirstPart.{first_into}
use Rattle.values.specs.Taking.{RunTo}

module _ (separator : ℕ) where
  length_into : (t : Bool) (b : ℕ) (p : List ℕ) → length (cond t [] (b ∷ p)) ≡ cond t 0 (1 + length p)
  length_into true b p = refl
  length_into false b p = omega arith

  pub first_length : (s : List ℕ) → length (first_part separator s) ≡ position_or_len (λ b. eqb b separator) s
  first_length =
      is_position_or_len (λ s. length (first_part separator s)) (λ b. eqb b separator) refl
      (λ b s. ap length (first_into (eqb b separator) b (parts separator s)) ∙ length_into (eqb b separator) b _)

  by_position : (s : List ℕ) (p n : ℕ) (t : Bool) → p ≤ length s → ltb p (length s) ≡ t
      → n ≡ unwrap_or (cond t (Some p) None) (length s)
      → n ≡ p
  by_position s p n true within e is = is
  by_position s p n false within e is = omega (arith, ltb-false p (length s) e)

  pub run_position : (s : List ℕ) (n : ℕ) → n ≡ unwrap_or (position (λ b. eqb b separator) s) (length s)
      → RunTo separator s n
  run_position s n is =
      let within = prefix_len-le-length (λ b. not (eqb b separator)) s in
      let first : n ≡ position_or_len (λ b. eqb b separator) s = by_position s _ n _ within refl is in
      record { is = first ∙ sym (first_length s); within = omega arith }
