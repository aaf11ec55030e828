-- A number is its tenth with one digit behind it, so it is its hundredth with two digits behind it. And a number from
-- 10 to 99 is these two digits alone.
use Prim.Native.Nat.{ℕ, ◌/◌, ◌%◌, ◌^◌, ◌≤◌, ◌<◌}
use mathlib.Core.Path.{◌≡◌, ◌∙◌}
use mathlib.Core.List.{◌++◌, append_assoc}
use native.Mathlib.Omega.{arith}
use Rattle.text.specs.Text.{decimal}
use Rattle.text.proofs.Laws.Decimal.{decimal_digit, decimal_more}
use Rattle.numerals.specs.Pair.{pair}

pub decimal_pair : (n : ℕ) → 10 ≤ n → n < 100 → decimal n ≡ pair n
decimal_pair n two below = decimal_more n two (omega arith) ∙ rw (decimal_digit (n / 10) (omega arith))

pub decimal_hundreds : (n : ℕ) → 100 ≤ n → n < 2 ^ 64 → decimal n ≡ decimal (n / 100) ++ pair (n % 100)
decimal_hundreds n more word =
    let hundredth : n / 10 / 10 ≡ n / 100 = omega arith in
    let tens : n / 10 % 10 ≡ n % 100 / 10 = omega arith in
    let units : n % 10 ≡ n % 100 % 10 = omega arith in
    rw (decimal_more n (omega arith) word, decimal_more (n / 10) (omega arith) (omega arith), append_assoc)
    (rw (hundredth, tens, units))

pub decimal_myriads : (n : ℕ) → 10000 ≤ n → n < 2 ^ 64
    → decimal n ≡ decimal (n / 10000) ++ (pair (n / 100 % 100) ++ pair (n % 100))
decimal_myriads n more word =
    let myriad : n / 100 / 100 ≡ n / 10000 = omega arith in
    rw (decimal_hundreds n (omega arith) word, decimal_hundreds (n / 100) (omega arith) (omega arith), myriad)
    (append_assoc (decimal (n / 10000)) (pair (n / 100 % 100)) (pair (n % 100)))
