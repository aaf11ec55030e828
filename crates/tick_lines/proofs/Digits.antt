-- A digit more behind the text is ten times the number and the digit. So digits that are read one by one make the
-- number of their text, and without a 0 in front the text is this number's decimal.
use Prim.Native.Nat.{ℕ, ◌+◌, ◌*◌, ◌-◌, ◌^◌, ◌≤◌, ◌<◌}
use mathlib.Core.Path.{◌≡◌, refl}
use mathlib.Core.Bool.{true}
use mathlib.Core.List.{List, [], ◌∷◌, ◌++◌}
use native.Mathlib.Numerals.{add-one}
use native.Mathlib.Decide.{dec_lt}
use native.Mathlib.Nat.{pow-suc, pow-le-pow_right}
use native.Mathlib.Omega.{arith}
use lib.ListN.{length, get_or, take}
use lib.Seq.{take-suc, get_or-take}
use borrow.Author.Tests.{lt-ltb, ne_eqb}
use Rattle.text.specs.Text.{comma, all_digits, number_after, leads_well, is_number, decimal}
use Rattle.text.proofs.Laws.Digits.{number_behind, digits_behind, decimal_byte}
use Rattle.text.proofs.Laws.Decimal.{decimal_of_number}

leads : (bs : List ℕ) → 48 < get_or bs 0 0 → leads_well bs ≡ true
leads [] h = absurd (omega arith)
leads (b ∷ []) h = refl
leads (b ∷ d ∷ bs) h = rw (ne_eqb b 48 (λ e. omega arith))

-- the digits of a number, seven at most, stand at the front, up to an index
pub record DigitsTo (s : List ℕ) (i v : ℕ) : Type 0 where
  pub few : i ≤ 7
  pub digits : all_digits 10 (take i s) ≡ true
  pub number : number_after 10 0 (take i s) ≡ v
  pub small : v < 10 ^ i

pub digits_none : (s : List ℕ) → DigitsTo s 0 0
digits_none s = record { few = omega arith; digits = refl; number = refl; small = omega arith }

module _ {s : List ℕ} {i v : ℕ} (to : DigitsTo s i v) where
  -- far below 2^64
  pub digits_below : v < 10000000
  digits_below = omega (arith, to.small, pow-le-pow_right {n = 10} (omega arith) to.few)

  pub digits_on : {j d : ℕ} → i ≡ j → i < 7 → j < length s → let b = get_or s j 0 in d ≡ b - 48 → 48 ≤ b → b ≤ 57
      → DigitsTo s (i + 1) (v * 10 + d)
  digits_on {j} here room more is low high =
      let b = get_or s j 0 in
      let text : take (i + 1) s ≡ take i s ++ (b ∷ []) = rw (here, add-one) (take-suc s j 0 more) in
      let digit = decimal_byte b low high in
      record {
        few = omega arith;
        digits = rw text (digits_behind 10 (take i s) b to.digits (rw digit (omega arith)));
        number = rw (text, number_behind 10 0 (take i s) b, to.number, digit, is) refl;
        small = rw (add-one, pow-suc) (omega (arith, to.small));
      }

  -- where the first byte is above "0" and a comma stands behind the last there is a digit, and none is a 0 in front
  module _ (lead : 48 < get_or s 0 0) (behind : get_or s i 0 ≡ comma) where
    digits_some : 0 < i
    digits_some =
        elim (dec_lt 0 i) [
          | yes h ↦ h
          | no h ↦ let same : i ≡ 0 = omega arith in absurd (omega (arith, rw same at behind))
        ]

    digits_lead : leads_well (take i s) ≡ true
    digits_lead = leads (take i s) (rw (get_or-take i s 0 0 digits_some) lead)

    digits_number : is_number 10 (take i s) ≡ true
    unfolding is_number
    digits_number = rw (digits_lead, to.digits, to.number, lt-ltb v (2 ^ 64) (omega (arith, digits_below)))

    pub digits_decimal : decimal v ≡ take i s
    digits_decimal = rw to.number at (decimal_of_number (take i s) digits_number)
