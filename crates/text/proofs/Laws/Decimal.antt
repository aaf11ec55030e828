-- Numbers in decimal and in base 16, by the laws of digits in a base; and how many digits a number has in decimal.
use Prim.Native.Nat.{ℕ, zero, suc, ◌+◌, ◌*◌, ◌/◌, ◌%◌, ◌^◌, ◌≤◌, ◌<◌}
use mathlib.Core.Path.{◌≡◌, refl, ◌∙◌}
use mathlib.Core.Bool.{true}
use mathlib.Core.List.{List, [], ◌∷◌, ◌++◌}
use native.Mathlib.Decide.{dec_lt}
use native.Mathlib.Nat.{pow-suc}
use native.Mathlib.Omega.{arith}
use lib.ListN.{length, length-append}
use borrow.Author.Tests.{lt-ltb}
use Rattle.text.specs.Text.{all_digits, number_after, is_number, digits_in, decimal}
use Rattle.text.proofs.Laws.Digits as Digits

-- 20 digits are enough in decimal, and 16 in base 16
twenty : Digits.Fits 10 18
twenty = record { two = omega arith; most = omega arith; wide = λ n l. omega arith }

sixteen : Digits.Fits 16 14
sixteen = record { two = omega arith; most = omega arith; wide = λ n l. l }

-- a number below 10 is one digit
pub decimal_digit : (n : ℕ) → n < 10 → decimal n ≡ (48 + n) ∷ []
unfolding decimal
decimal_digit n h = Digits.text_digit twenty n h ∙ rw (lt-ltb n 10 h) refl

-- any other has one digit more than its tenth
pub decimal_more : (n : ℕ) → 10 ≤ n → n < 2 ^ 64 → decimal n ≡ decimal (n / 10) ++ ((48 + n % 10) ∷ [])
unfolding decimal
decimal_more n h l =
    let last : n % 10 < 10 = omega arith in
    Digits.text_more twenty n h l ∙ rw (lt-ltb (n % 10) 10 last) refl

-- it is read as it is written, and each number that is read is so written
pub decimal_some : (n : ℕ) → 0 < length (decimal n)
unfolding decimal
decimal_some n = Digits.text_some twenty n

pub decimal_digits : (n : ℕ) → n < 2 ^ 64 → all_digits 10 (decimal n) ≡ true
unfolding decimal
decimal_digits n l = Digits.text_digits twenty n l

pub decimal_is_number : (n : ℕ) → n < 2 ^ 64 → is_number 10 (decimal n) ≡ true
unfolding decimal
decimal_is_number n l = Digits.text_is_number twenty n l

pub number_of_decimal : (n : ℕ) → n < 2 ^ 64 → number_after 10 0 (decimal n) ≡ n
unfolding decimal
number_of_decimal n l = Digits.number_of_text twenty n l

pub decimal_of_number : (bs : List ℕ) → is_number 10 bs ≡ true → decimal (number_after 10 0 bs) ≡ bs
unfolding decimal
decimal_of_number bs h = Digits.text_of_number twenty bs h

-- the digits in base 16, likewise
pub sixteen_digits : (n : ℕ) → n < 2 ^ 64 → all_digits 16 (digits_in 16 16 n) ≡ true
sixteen_digits n l = Digits.text_digits sixteen n l

pub sixteen_is_number : (n : ℕ) → n < 2 ^ 64 → is_number 16 (digits_in 16 16 n) ≡ true
sixteen_is_number n l = Digits.text_is_number sixteen n l

pub number_of_sixteen : (n : ℕ) → n < 2 ^ 64 → number_after 16 0 (digits_in 16 16 n) ≡ n
number_of_sixteen n l = Digits.number_of_text sixteen n l

pub sixteen_of_number : (bs : List ℕ) → is_number 16 bs ≡ true → digits_in 16 16 (number_after 16 0 bs) ≡ bs
sixteen_of_number bs h = Digits.text_of_number sixteen bs h

pub length_digit : (n : ℕ) → n < 10 → length (decimal n) ≡ 1
length_digit n h = rw (decimal_digit n h)

pub length_more : (n : ℕ) → 10 ≤ n → n < 2 ^ 64 → length (decimal n) ≡ length (decimal (n / 10)) + 1
length_more n h l = rw (decimal_more n h l) (length-append (decimal (n / 10)) ((48 + n % 10) ∷ []))

-- a number below 10^k has at most k digits
pub length_below : (k n : ℕ) → 0 < k → n < 10 ^ k → n < 2 ^ 64 → length (decimal n) ≤ k
length_below zero n some h l = absurd (omega arith)
length_below (suc k) n some h l =
    elim (dec_lt n 10) [
      | yes d ↦ omega (arith, length_digit n d)
      | no d ↦
          let g : 10 ≤ n = omega arith in
          let p : n < 10 ^ k * 10 = rw pow-suc at h in
          let q : n / 10 < 10 ^ k = omega arith in
          let room : 0 < k = positive k (n / 10) q (omega arith) in
          omega (arith, length_more n g l, length_below k (n / 10) room q (omega arith))
    ]
  where
    positive : (k m : ℕ) → m < 10 ^ k → 0 < m → 0 < k
    positive zero m a b = absurd (omega arith)
    positive (suc k) m a b = omega arith
