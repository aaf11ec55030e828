-- The value at the front is what the text up to the next comma reads as. A digit is no comma, so one digit or two with
-- a comma behind them are this text, and their number is its value.
use mathlib.Core.Path.{◌≡◌, refl, sym, ap, ◌∙◌}
use mathlib.Core.List.{List, [], ◌∷◌}
use Prim.Native.Nat.{ℕ, ◌+◌, ◌/◌, ◌%◌, ◌≤◌, ◌<◌}
use native.Mathlib.Omega.{arith}
use lib.ListN.{length, get_or, take}
use borrow.Author.Tests.{lt-ltb, le-ltb, eq-eqb, ne_eqb}
use Rattle.std.specs.Prelude.{Option, Some, None}
use Rattle.text.specs.Text.{comma, value_of}
use Rattle.text.proofs.Laws.FirstPart.{first_take}
use Rattle.digits.proofs.DigitByDigit.{digit_value, two_digits_value}
use Rattle.values.specs.Taking.{RunTo, TakenFrom}

-- the run up to the next comma, or up to the end of the text
pub taken_run : {s : List ℕ} {n : ℕ} {v : Option ℕ} → RunTo comma s n → n < length s → v ≡ value_of (take n s)
    → TakenFrom s (record { value = v; end = n })
taken_run {s} {n} run more is = record {
  value = rw (lt-ltb n (length s) more) (is ∙ ap value_of (rw run.is (sym (first_take comma s))));
  end = run.is;
}

pub taken_cut : {s : List ℕ} {n : ℕ} → RunTo comma s n → n ≡ length s → TakenFrom s (record { value = None; end = n })
taken_cut {s} {n} run cut = record { value = rw (le-ltb n (length s) (omega arith)); end = run.is }

-- one digit before a comma
pub taken_digit : (s : List ℕ) (digit : ℕ) → 2 ≤ length s → get_or s 0 0 ≡ 48 + digit → digit < 10
    → get_or s 1 0 ≡ comma
    → TakenFrom s (record { value = Some digit; end = 1 })
taken_digit [] digit more byte small behind = absurd (omega arith)
taken_digit (b ∷ []) digit more byte small behind = absurd (omega arith)
taken_digit (b ∷ c ∷ s) digit more byte small behind =
    let no : b ≡ comma → ⊥ = (λ e. omega arith) in
    let inside : 1 < length (b ∷ c ∷ s) = omega arith in
    record {
      value =
          rw (ne_eqb b comma no, eq-eqb c comma behind, lt-ltb 1 (length (b ∷ c ∷ s)) inside, byte)
          (digit_value digit small);
      end = rw (ne_eqb b comma no, eq-eqb c comma behind) refl;
    }

-- two digits before a comma
pub taken_two : (s : List ℕ) (n : ℕ) → 3 ≤ length s → get_or s 0 0 ≡ 48 + n / 10 → get_or s 1 0 ≡ 48 + n % 10
    → 10 ≤ n
    → n < 100
    → get_or s 2 0 ≡ comma
    → TakenFrom s (record { value = Some n; end = 2 })
taken_two [] n more tens units some small behind = absurd (omega arith)
taken_two (b ∷ []) n more tens units some small behind = absurd (omega arith)
taken_two (b ∷ c ∷ []) n more tens units some small behind = absurd (omega arith)
taken_two (b ∷ c ∷ d ∷ s) n more tens units some small behind =
    let no : b ≡ comma → ⊥ = (λ e. omega arith) in
    let no2 : c ≡ comma → ⊥ = (λ e. omega arith) in
    let inside : 2 < length (b ∷ c ∷ d ∷ s) = omega arith in
    record {
      value =
          rw (
            ne_eqb b comma no,
            ne_eqb c comma no2,
            eq-eqb d comma behind,
            lt-ltb 2 (length (b ∷ c ∷ d ∷ s)) inside,
            tens,
            units,
          ) (two_digits_value n some small);
      end = rw (ne_eqb b comma no, ne_eqb c comma no2, eq-eqb d comma behind) refl;
    }
