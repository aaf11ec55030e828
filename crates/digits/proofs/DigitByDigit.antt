-- Writing a digit after a number does not make it smaller, so a number that has passed 2^64 stays there, and reading
-- may stop at once. A text that leads well has no 0 in front of an x, so how it leads tells its writing.
use mathlib.Core.Path.{◌≡◌, refl, sym, ◌∙◌}
use mathlib.Core.List.{List, [], ◌∷◌}
use mathlib.Core.Bool.{Bool, true, false, ◌&&◌, ◌||◌, and-true, and-false, cond, false≢true}
use Prim.Native.Nat.{ℕ, ◌+◌, ◌*◌, ◌/◌, ◌%◌, ◌^◌, ◌≤◌, ◌<◌}
use native.Mathlib.Nat.{zero-add, add-sub_cancel_left}
use native.Mathlib.Omega.{arith}
use lib.Dec.{ltb}
use lib.ListN.{length, get_or, drop}
use borrow.Author.Tests.{lt-ltb, le-ltb, ltb-true, ltb-false, ne_eqb}
use Rattle.std.specs.Prelude.{Option, Some, None, option_and_then}
use Rattle.text.specs.Text.{digit_of, all_digits, number_after, leads_well, is_number, starts_with, base_prefix}
use Rattle.text.specs.Text.{is_value, number_of, value_of}
use Rattle.text.proofs.Laws.Digits.{number_grows, decimal_byte, number_in as is_in}
use Rattle.text.proofs.Laws.Values.{no_prefix}
use Rattle.digits.specs.Digits.{digit_after, number_in, base16_in}

-- one digit more, or none
module _ (base v b : ℕ) where
  pub no_digit : base ≤ digit_of b → None ≡ digit_after base v b
  no_digit h = rw (le-ltb (digit_of b) base h) refl

  pub too_large : 2 ^ 64 ≤ v * base + digit_of b → None ≡ digit_after base v b
  too_large h = rw (le-ltb (v * base + digit_of b) (2 ^ 64) h, and-false (ltb (digit_of b) base)) refl

  pub digit_more : digit_of b < base → v * base + digit_of b < 2 ^ 64
      → Some (v * base + digit_of b) ≡ digit_after base v b
  digit_more h l = rw (lt-ltb (digit_of b) base h, lt-ltb (v * base + digit_of b) (2 ^ 64) l) refl

-- what v becomes when digits of a base are written after it one by one, while it stays below 2^64
abbrev pub read_after : (base v : ℕ) → List ℕ → Option ℕ
read_after base v [] = Some v
read_after base v (b ∷ bs) = option_and_then (λ n. read_after base n bs) (digit_after base v b)

-- the number of them all, if it is below 2^64
abbrev number_if : (base v : ℕ) → List ℕ → Option ℕ
number_if base v bs =
    cond (all_digits base bs && ltb (number_after base v bs) (2 ^ 64)) (Some (number_after base v bs)) None

module _ (base : ℕ) (some : 1 ≤ base) where
  one_more : (n : ℕ) (bs : List ℕ) → (n < 2 ^ 64 → read_after base n bs ≡ number_if base n bs) → (digit fits : Bool)
      → ltb n (2 ^ 64) ≡ fits
      → option_and_then (λ m. read_after base m bs) (cond (digit && fits) (Some n) None)
      ≡ cond (digit && all_digits base bs && ltb (number_after base n bs) (2 ^ 64)) (Some (number_after base n bs)) None
  one_more n bs rest false fits h = refl
  one_more n bs rest true true h = rest (ltb-true n (2 ^ 64) h)
  one_more n bs rest true false h =
      let large : 2 ^ 64 ≤ number_after base n bs =
      omega (arith, ltb-false n (2 ^ 64) h, number_grows base n bs some) in
      rw (le-ltb (number_after base n bs) (2 ^ 64) large, and-false)

  all_read : (v : ℕ) (bs : List ℕ) → v < 2 ^ 64 → read_after base v bs ≡ number_if base v bs
  all_read v [] h = rw (lt-ltb v (2 ^ 64) h) refl
  all_read v (b ∷ bs) h =
      let n = v * base + digit_of b in
      one_more n bs (all_read n bs) (ltb (digit_of b) base) _ refl

-- digits that lead well make a number, and others none
pub number_leads : (base : ℕ) (s : List ℕ) → 1 ≤ base → true ≡ leads_well s → read_after base 0 s ≡ number_in base s
unfolding is_number
number_leads base s some h = rw (← h, all_read base some 0 s (omega arith)) refl

pub number_leads_not : (base : ℕ) (s : List ℕ) → false ≡ leads_well s → None ≡ number_in base s
unfolding is_number
number_leads_not base s h = rw (← h) refl

-- a text of one byte leads well, and its number is the byte's digit after 0
pub number_one : (s : List ℕ) → 1 ≤ length s → length s < 2 → digit_after 10 0 (get_or s 0 0) ≡ number_in 10 s
unfolding is_number
number_one [] some one = absurd (omega arith)
number_one (b ∷ []) some one = rw (and-true (ltb (digit_of b) 10)) refl
number_one (b ∷ d ∷ bs) some one = absurd (omega arith)

-- what is no number in decimal is a value in base 16 or none
pub value_by_base : (s : List ℕ)
    → value_of s ≡ cond (is_number 10 s) (Some (number_after 10 0 s)) (base16_in s)
unfolding is_value number_of value_of
value_by_base s = by (is_number 10 s) (starts_with base_prefix s) refl refl
  where
    by : (t u : Bool) → is_number 10 s ≡ t → starts_with base_prefix s ≡ u
        → cond (t || (u && is_number 16 (drop 2 s)))
        (Some (cond u (number_after 16 0 (drop 2 s)) (number_after 10 0 s)))
        None
        ≡ cond t (Some (number_after 10 0 s)) (cond u (number_in 16 (drop 2 s)) None)
    by true true e p = absurd (false≢true (sym (no_prefix s (is_in 10 s e).0) ∙ p))
    by true false e p = refl
    by false true e p = refl
    by false false e p = refl

-- a text that leads well is a value in decimal or none
value_leads : (s : List ℕ) → leads_well s ≡ true → number_if 10 0 s ≡ value_of s
unfolding is_number
value_leads s h = rw (value_by_base s, h, no_prefix s h) refl

-- a digit that stands alone is a value
pub digit_value : (digit : ℕ) → digit < 10 → Some digit ≡ value_of ((48 + digit) ∷ [])
digit_value digit h =
    let b : digit_of (48 + digit) ≡ digit =
    decimal_byte (48 + digit) (omega arith) (omega arith) ∙ add-sub_cancel_left 48 digit in
    rw (b, lt-ltb digit 10 h, zero-add, lt-ltb digit (2 ^ 64) (omega arith)) at (value_leads ((48 + digit) ∷ []) refl)

-- two digits are a value where the first is not 0
pub two_digits_value : (n : ℕ) → 10 ≤ n → n < 100 → Some n ≡ value_of ((48 + n / 10) ∷ (48 + n % 10) ∷ [])
two_digits_value n some small =
    let tens : digit_of (48 + n / 10) ≡ n / 10 =
    decimal_byte (48 + n / 10) (omega arith) (omega arith) ∙ add-sub_cancel_left 48 (n / 10) in
    let units : digit_of (48 + n % 10) ≡ n % 10 =
    decimal_byte (48 + n % 10) (omega arith) (omega arith) ∙ add-sub_cancel_left 48 (n % 10) in
    let ten : n / 10 < 10 = omega arith in
    let unit : n % 10 < 10 = omega arith in
    let whole : (0 * 10 + n / 10) * 10 + n % 10 ≡ n = omega arith in
    let leads : leads_well ((48 + n / 10) ∷ (48 + n % 10) ∷ []) ≡ true =
    rw (ne_eqb (48 + n / 10) 48 (λ e. omega arith)) refl in
    rw (tens, units, lt-ltb (n / 10) 10 ten, lt-ltb (n % 10) 10 unit, whole, lt-ltb n (2 ^ 64) (omega arith)) at
    (value_leads ((48 + n / 10) ∷ (48 + n % 10) ∷ []) leads)
