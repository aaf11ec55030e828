-- A text with a 0 in front of an x is no number in decimal, and one without is none in base 16. So a value is of one
-- writing, by which its number is read.
use Prim.Native.Nat.{ℕ}
use mathlib.Core.Path.{◌≡◌, refl}
use mathlib.Core.Bool.{Bool, true, false, ◌&&◌, ◌||◌, and-false, or-false, false≢true}
use mathlib.Core.List.{List, [], ◌∷◌}
use mathlib.Core.Logic.{◌⊎◌, inl, inr}
use lib.Dec.{eqb}
use lib.ListN.{drop}
use borrow.Author.Tests.{ne_eqb, not-true}
use Rattle.text.specs.Text.{number_after, leads_well, is_number, starts_with, base_prefix, is_value, number_of, Lacks}
use Rattle.model.proofs.Laws.Testing.{both}
use Rattle.text.proofs.Laws.Digits.{number_in}

-- a number in decimal has no 0 in front of an x
pub no_prefix : (bs : List ℕ) → leads_well bs ≡ true → starts_with base_prefix bs ≡ false
no_prefix [] h = refl
no_prefix (b ∷ []) h = and-false (eqb b 48)
no_prefix (b ∷ c ∷ bs) h = rw (not-true (eqb b 48) h) refl

-- a value in decimal, and one in base 16
pub decimal_value_lem : (bs : List ℕ) → is_number 10 bs ≡ true
    → (is_value bs ≡ true) × (number_of bs ≡ number_after 10 0 bs)
unfolding is_value number_of
decimal_value_lem bs h = (rw h refl, rw (no_prefix bs (number_in 10 bs h).0) refl)

module _ (bs : List ℕ) (starts : starts_with base_prefix bs ≡ true) where
  not_decimal : is_number 10 bs ≡ false
  not_decimal = by (is_number 10 bs) refl
    where
      by : (t : Bool) → is_number 10 bs ≡ t → is_number 10 bs ≡ false
      by true e = absurd (false≢true (rw (no_prefix bs (number_in 10 bs e).0) at starts))
      by false e = e

  pub base16_value_lem : is_number 16 (drop 2 bs) ≡ true
      → (is_value bs ≡ true) × (number_of bs ≡ number_after 16 0 (drop 2 bs))
  unfolding is_value number_of
  base16_value_lem h = (rw (not_decimal, starts, h) refl, rw starts refl)

-- and there is no other
pub value_either : (bs : List ℕ) → is_value bs ≡ true
    → (is_number 10 bs ≡ true) ⊎ ((starts_with base_prefix bs ≡ true) × (is_number 16 (drop 2 bs) ≡ true))
unfolding is_value
value_either bs h = by (is_number 10 bs) refl h
  where
    by : (t : Bool) → is_number 10 bs ≡ t → (t || (starts_with base_prefix bs && is_number 16 (drop 2 bs))) ≡ true
        → (is_number 10 bs ≡ true) ⊎ ((starts_with base_prefix bs ≡ true) × (is_number 16 (drop 2 bs) ≡ true))
    by true e h = inl e
    by false e h = inr (both (starts_with base_prefix bs) (is_number 16 (drop 2 bs)) h)

-- a text without an x is a value where it is one in decimal, and its number is that
module _ (bs : List ℕ) (plain : Lacks 120 bs) where
  plain_prefix : starts_with base_prefix bs ≡ false
  plain_prefix = by bs plain
    where
      by : (bs : List ℕ) → Lacks 120 bs → starts_with base_prefix bs ≡ false
      by [] h = refl
      by (b ∷ []) h = and-false (eqb b 48)
      by (b ∷ c ∷ bs) h = rw (ne_eqb c 120 h.1.0) (and-false (eqb b 48))

  pub plain_value : is_value bs ≡ is_number 10 bs
  unfolding is_value
  plain_value = rw plain_prefix (or-false (is_number 10 bs))

  pub plain_number : number_of bs ≡ number_after 10 0 bs
  unfolding number_of
  plain_number = rw plain_prefix refl
