-- In any base a number is its quotient with one digit written behind it, and room for more digits than it has changes
-- nothing. So what holds of one digit, and goes from the quotient to the number, holds of every number: its digits read
-- as it. And the bytes of a number that is read are, one by one, the digits that the number read so far gets next, so
-- each text is that of its number.
use Prim.Native.Nat.{ℕ, zero, suc, ◌+◌, ◌*◌, ◌-◌, ◌/◌, ◌%◌, ◌^◌, ◌≤◌, ◌<◌}
use mathlib.Core.Path.{◌≡◌, refl, ◌∙◌}
use mathlib.Core.Bool.{Bool, true, false, ◌&&◌, cond, false≢true}
use mathlib.Core.List.{List, [], ◌∷◌, ◌++◌, append-nil}
use native.Mathlib.Decide.{dec_lt}
use native.Mathlib.Nat.{pow-suc, pow-zero, one-mul, zero-mul, zero-add, mod-lt, div-add-mod', mul-le-mul_left}
use native.Mathlib.Nat.{mul-le-mul_right, div-lt_iff_lt-mul, le-div_iff_mul-le, div-le_self}
use native.Mathlib.Nat.{div-lt_self}
use native.Mathlib.Omega.{arith}
use lib.Dec.{leb, ltb}
use lib.ListN.{length, get_or, length-append}
use lib.Arith.{digits_div, digits_mod}
use lib.Seq.{append_snoc}
use borrow.Author.Tests.{lt-ltb, le-ltb, le-leb, lt-leb, ne_eqb, leb-true, ltb-true, eqb-false, not-true}
use Rattle.text.specs.Text.{digit_of, all_digits, number_after, leads_well, is_number, byte_of, digits_in}
use Rattle.model.proofs.Laws.Testing.{both, both_true}

-- ---- a digit and its byte

pub digit_of_byte : (d : ℕ) → d < 16 → digit_of (byte_of d) ≡ d
digit_of_byte d h =
    elim (dec_lt d 10) [
      | yes l ↦
          let back : 48 + d - 48 ≡ d = omega arith in
          rw (lt-ltb d 10 l, le-leb 48 (48 + d) (omega arith), le-leb (48 + d) 57 (omega arith)) back
      | no l ↦
          let back : 87 + d - 87 ≡ d = omega arith in
          let g : 10 ≤ d = omega arith in
          rw (
            le-ltb d 10 g,
            le-leb 48 (87 + d) (omega arith),
            lt-leb (87 + d) 57 (omega arith),
            le-leb 97 (87 + d) (omega arith),
            le-leb (87 + d) 102 (omega arith),
          ) back
    ]

-- 0x30 to 0x39 are the digits in decimal
pub decimal_byte : (b : ℕ) → 48 ≤ b → b ≤ 57 → digit_of b ≡ b - 48
decimal_byte b low high = rw (le-leb 48 b low, le-leb b 57 high) refl

-- a byte that is a digit
pub record DigitByte (b d : ℕ) : Type 0 where
  pub least : 48 ≤ b
  pub most : b ≤ 102
  pub back : byte_of d ≡ b
  pub zero_only : d ≡ 0 → b ≡ 48

digit_by : (b : ℕ) (t u : Bool) → (leb 48 b && leb b 57) ≡ t → (leb 97 b && leb b 102) ≡ u
    → cond t (b - 48) (cond u (b - 87) 16) < 16
    → DigitByte b (cond t (b - 48) (cond u (b - 87) 16))
digit_by b true u e f h =
    let low = both (leb 48 b) (leb b 57) e in
    let l = leb-true 48 b low.0 in
    let m = leb-true b 57 low.1 in
    let small : b - 48 < 10 = omega arith in
    let back : 48 + (b - 48) ≡ b = omega arith in
    record { least = l; most = omega arith; back = rw (lt-ltb (b - 48) 10 small) back; zero_only = λ z. omega arith }
digit_by b false true e f h =
    let low = both (leb 97 b) (leb b 102) f in
    let l = leb-true 97 b low.0 in
    let m = leb-true b 102 low.1 in
    let large : 10 ≤ b - 87 = omega arith in
    let back : 87 + (b - 87) ≡ b = omega arith in
    record { least = omega arith; most = m; back = rw (le-ltb (b - 87) 10 large) back; zero_only = λ z. omega arith }
digit_by b false false e f h = absurd (omega arith)

pub digit_byte : (b : ℕ) → digit_of b < 16 → DigitByte b (digit_of b)
digit_byte b h = digit_by b _ _ refl refl h

byte_above : (d : ℕ) → 0 < d → 48 < byte_of d
byte_above d some =
    elim (dec_lt d 10) [
      | yes l ↦ rw (lt-ltb d 10 l) (omega arith)
      | no l ↦ let g : 10 ≤ d = omega arith in rw (le-ltb d 10 g) (omega arith)
    ]

above : (d : ℕ) → (d ≡ 0 → ⊥) → 0 < 0 + d
above zero h = absurd (h refl)
above (suc d) h = omega arith

-- ---- texts of digits

-- digits written after a number do not make it smaller
pub number_grows : (base v : ℕ) (bs : List ℕ) → 1 ≤ base → v ≤ number_after base v bs
number_grows base v [] h = omega arith
number_grows base v (b ∷ bs) h =
    let once : v * 1 ≤ v * base = mul-le-mul_left v h in
    omega (arith, number_grows base (v * base + digit_of b) bs h)

pub number_behind : (base v : ℕ) (bs : List ℕ) (b : ℕ)
    → number_after base v (bs ++ (b ∷ [])) ≡ number_after base v bs * base + digit_of b
number_behind base v [] b = refl
number_behind base v (c ∷ bs) b = number_behind base (v * base + digit_of c) bs b

pub digits_behind : (base : ℕ) (bs : List ℕ) (b : ℕ) → all_digits base bs ≡ true → digit_of b < base
    → all_digits base (bs ++ (b ∷ [])) ≡ true
digits_behind base [] b h l = rw (lt-ltb (digit_of b) base l) refl
digits_behind base (c ∷ bs) b h l =
    let tests = both (ltb (digit_of c) base) (all_digits base bs) h in
    both_true _ _ tests.0 (digits_behind base bs b tests.1 l)

leads_behind : (bs : List ℕ) (b : ℕ) → 48 < get_or bs 0 0 → leads_well (bs ++ (b ∷ [])) ≡ true
leads_behind [] b h = absurd (omega arith)
leads_behind (c ∷ []) b h = rw (ne_eqb c 48 (λ e. omega arith))
leads_behind (c ∷ d ∷ bs) b h = rw (ne_eqb c 48 (λ e. omega arith))

first_stays : (bs cs : List ℕ) → 48 < get_or bs 0 0 → 48 < get_or (bs ++ cs) 0 0
first_stays [] cs h = absurd (omega arith)
first_stays (b ∷ bs) cs h = h

-- digits without a leading zero and below 2^64, as facts
pub number_in : (base : ℕ) (bs : List ℕ) → is_number base bs ≡ true
    → (leads_well bs ≡ true) × (all_digits base bs ≡ true) × (number_after base 0 bs < 2 ^ 64)
unfolding is_number
number_in base bs h =
    let tests = both (leads_well bs) _ h in
    let digits = both (all_digits base bs) (ltb (number_after base 0 bs) (2 ^ 64)) tests.1 in
    (tests.0, digits.0, ltb-true _ _ digits.1)

-- ---- numbers in a base, with room for every one below 2^64

pub record Fits (base room : ℕ) : Type 0 where
  pub two : 2 ≤ base
  pub most : base ≤ 16
  pub wide : (n : ℕ) → n < 2 ^ 64 → n < base ^ suc (suc room)

module _ {base room : ℕ} (fits : Fits base room) where
  abbrev text : ℕ → List ℕ
  text n = digits_in base (suc (suc room)) n

  quotient_low : (k n : ℕ) → n < base ^ suc k → n / base < base ^ k
  quotient_low k n h = (div-lt_iff_lt-mul {k = base} {x = n} {y = base ^ k} (omega arith)).1 (rw pow-suc at h)

  stable : (k n : ℕ) → n < base ^ suc k → digits_in base (suc k) n ≡ digits_in base (suc (suc k)) n
  stable zero n h =
      let one : base ^ 1 ≡ base = pow-suc base 0 ∙ rw (pow-zero base) (one-mul base) in
      rw (lt-ltb n base (rw one at h)) refl
  stable (suc k) n h =
      elim (dec_lt n base) [
        | yes l ↦ rw (lt-ltb n base l) refl
        | no l ↦
            let g : base ≤ n = omega arith in
            rw (le-ltb n base g, stable k (n / base) (quotient_low (suc k) n h)) refl
      ]

  pub text_digit : (n : ℕ) → n < base → text n ≡ byte_of n ∷ []
  text_digit n h = rw (lt-ltb n base h) refl

  pub text_more : (n : ℕ) → base ≤ n → n < 2 ^ 64 → text n ≡ text (n / base) ++ (byte_of (n % base) ∷ [])
  text_more n h l =
      rw (← stable room (n / base) (quotient_low (suc room) n (fits.wide n l))) (rw (le-ltb n base h) refl)

  -- induction on the digits of a number
  module _ (P : ℕ → Type 0) (digit : (n : ℕ) → n < base → P n)
      (more : (n : ℕ) → base ≤ n → n < 2 ^ 64 → P (n / base) → P n) where
    within : (k n : ℕ) → n < k → n < 2 ^ 64 → P n
    within zero n h l = absurd (omega arith)
    within (suc k) n h l =
        elim (dec_lt n base) [
          | yes d ↦ digit n d
          | no d ↦
              let less : n / base < n = div-lt_self {n = n} {k = base} (omega arith) (omega arith) in
              more n (omega arith) l (within k (n / base) (omega arith) (omega arith))
        ]

    by_digits : (n : ℕ) → n < 2 ^ 64 → P n
    by_digits n l = within (suc n) n (omega arith) l

  last_digit : (n : ℕ) → n % base < base
  last_digit n = mod-lt n {m = base} (omega arith)

  pub text_digits : (n : ℕ) → n < 2 ^ 64 → all_digits base (text n) ≡ true
  text_digits =
      by_digits (λ n. all_digits base (text n) ≡ true)
      (λ n d. rw (text_digit n d, digit_of_byte n (omega arith), lt-ltb n base d) refl)
      (λ n g l quotient.
      let low = last_digit n in
      let digit : digit_of (byte_of (n % base)) < base = rw (digit_of_byte (n % base) (omega arith)) low in
      rw (text_more n g l) (digits_behind base (text (n / base)) (byte_of (n % base)) quotient digit))

  pub number_of_text : (n : ℕ) → n < 2 ^ 64 → number_after base 0 (text n) ≡ n
  number_of_text =
      by_digits (λ n. number_after base 0 (text n) ≡ n)
      (λ n d. rw (text_digit n d, digit_of_byte n (omega arith), zero-mul base) (zero-add n))
      (λ n g l quotient.
      let low = last_digit n in
      rw (
        text_more n g l,
        number_behind base 0 (text (n / base)) (byte_of (n % base)),
        quotient,
        digit_of_byte (n % base) (omega arith),
      ) (div-add-mod' n base))

  quotient_some : (n : ℕ) → base ≤ n → 0 < n / base
  quotient_some n g =
      (le-div_iff_mul-le {k = base} {x = 1} {y = n} (omega arith)).1 (omega (arith, one-mul base))

  -- the first digit of a number above 0 is not 0
  first_digit : (n : ℕ) → n < 2 ^ 64 → 0 < n → 48 < get_or (text n) 0 0
  first_digit =
      by_digits (λ n. 0 < n → 48 < get_or (text n) 0 0)
      (λ n d some. rw (text_digit n d) (byte_above n some))
      (λ n g l quotient some.
      rw (text_more n g l) (first_stays (text (n / base)) _ (quotient (quotient_some n g))))

  text_leads : (n : ℕ) → n < 2 ^ 64 → leads_well (text n) ≡ true
  text_leads n l =
      elim (dec_lt n base) [
        | yes d ↦ rw (text_digit n d) refl
        | no d ↦
            let g : base ≤ n = omega arith in
            let first = first_digit (n / base) (omega (arith, div-le_self n base)) (quotient_some n g) in
            rw (text_more n g l) (leads_behind (text (n / base)) (byte_of (n % base)) first)
      ]

  pub text_is_number : (n : ℕ) → n < 2 ^ 64 → is_number base (text n) ≡ true
  unfolding is_number
  text_is_number n l = rw (text_leads n l, text_digits n l, number_of_text n l, lt-ltb n (2 ^ 64) l) refl

  -- digits written after a number above 0 follow its own
  text_next : (v b : ℕ) → 0 < v → digit_of b < base → v * base + digit_of b < 2 ^ 64
      → text (v * base + digit_of b) ≡ text v ++ (b ∷ [])
  text_next v b some h l =
      let n = v * base + digit_of b in
      let once : 1 * base ≤ v * base = mul-le-mul_right base some in
      let g : base ≤ n = omega (arith, one-mul base) in
      text_more n g l
      ∙ rw (digits_div v h, digits_mod v h, (digit_byte b (omega arith)).back) refl

  text_after : (v : ℕ) (bs : List ℕ) → 0 < v → all_digits base bs ≡ true → number_after base v bs < 2 ^ 64
      → text (number_after base v bs) ≡ text v ++ bs
  text_after v [] some h l = rw append-nil refl
  text_after v (b ∷ bs) some h l =
      let tests = both (ltb (digit_of b) base) (all_digits base bs) h in
      let digit = ltb-true (digit_of b) base tests.0 in
      let n = v * base + digit_of b in
      let once : v * 1 ≤ v * base = mul-le-mul_left v (omega arith) in
      let below : n < 2 ^ 64 = omega (arith, number_grows base n bs (omega arith)) in
      text_after n bs (omega arith) tests.1 l
      ∙ rw (text_next v b some digit below, append_snoc) refl

  text_first : (b : ℕ) → digit_of b < base → text (0 * base + digit_of b) ≡ b ∷ []
  text_first b h =
      rw (zero-mul base, zero-add (digit_of b), text_digit (digit_of b) h, (digit_byte b (omega arith)).back) refl

  -- a number that is read has one text, its own
  pub text_of_number : (bs : List ℕ) → is_number base bs ≡ true → text (number_after base 0 bs) ≡ bs
  text_of_number [] h = absurd (false≢true (number_in base [] h).0)
  text_of_number (b ∷ []) h =
      text_first b (ltb-true _ _ (both (ltb (digit_of b) base) true (number_in base (b ∷ []) h).1).0)
  text_of_number (b ∷ c ∷ bs) h =
      let number = number_in base (b ∷ c ∷ bs) h in
      let tests = both (ltb (digit_of b) base) (all_digits base (c ∷ bs)) number.1 in
      let digit = ltb-true (digit_of b) base tests.0 in
      let lead = eqb-false b 48 (not-true _ number.0) in
      let some : 0 < 0 * base + digit_of b =
      rw (zero-mul base) (above (digit_of b) (λ z. lead ((digit_byte b (omega arith)).zero_only z))) in
      text_after (0 * base + digit_of b) (c ∷ bs) some tests.1 number.2
      ∙ rw (text_first b digit) refl

  -- each number has a digit
  pub text_some : (n : ℕ) → 0 < length (text n)
  text_some n =
      elim (dec_lt n base) [
        | yes l ↦ rw (text_digit n l) (omega arith)
        | no l ↦ let g : base ≤ n = omega arith in rw (le-ltb n base g, length-append) (omega arith)
      ]
