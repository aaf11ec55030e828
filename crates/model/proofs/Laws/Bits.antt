-- Setting bit k is bit_or with 2 ^ k: a clear bit is added with no carry, and a set one is absorbed. So the other bits
-- stay, and a word with only bits of a mask keeps to the mask while bits of the mask are latched.
use mathlib.Core.Path.{◌≡◌, refl, sym, ◌∙◌}
use mathlib.Core.List.{List, [], ◌∷◌}
use mathlib.Core.Bool.{Bool, true, false, ◌&&◌, cond}
use Prim.Native.Nat.{ℕ, suc, ◌+◌, ◌*◌, ◌-◌, ◌/◌, ◌%◌, ◌^◌, ◌<◌, ◌≤◌}
use native.Mathlib.Nat.{div_self, mod_self, div-eq_of_lt, pow-suc, mul-mod_left, suc-mul}
use native.Mathlib.Decide.{dec_lt, ℕ_discrete}
use native.Mathlib.Omega.{arith}
use lib.Dec.{leb, ltb}
use lib.Pow.{pow-lt, pow_pos, pow-add, shl-shr, split}
use lib.Bits.{bit_or, or_shr, or_mod, or_zero_r, or_step, or_lt}
use borrow.Author.Tests.{ltb-true, eqb-true, eqb-false, leb-true, lt-ltb, le-leb}
use Rattle.model.specs.Tests.{every_below}
use Rattle.model.specs.Interrupts.{positions, bit, has_bit, with_bit, latch, only_bits, latched_mask}
use Rattle.model.proofs.Laws.Testing.{both, both_true, below_all, all_below}

-- bit_or with 1 makes a number odd
or_one : (h : ℕ) → bit_or h 1 ≡ h / 2 * 2 + 1
or_one h = or_step h 1 ∙ rw or_zero_r (omega arith)

-- bit_or with 2 ^ k leaves the k low bits, and is bit_or with 1 on the rest
or_pow : (k x : ℕ) → bit_or x (2 ^ k) ≡ bit_or (x / 2 ^ k) 1 * 2 ^ k + x % 2 ^ k
or_pow k x = sym (split (bit_or x (2 ^ k)) k) ∙ rw (or_shr, or_mod, div_self (pow_pos k), mod_self, or_zero_r)

pub with_bit_or : (k x : ℕ) → with_bit k x ≡ bit_or x (2 ^ k)
unfolding with_bit
with_bit_or k x = go (has_bit k x) refl
  where
    go : (b : Bool) → has_bit k x ≡ b → cond b x (x + 2 ^ k) ≡ bit_or x (2 ^ k)
    go true e =
        let o = eqb-true (bit k x) 1 e in
        let s : bit_or (x / 2 ^ k) 1 ≡ x / 2 ^ k = or_one (x / 2 ^ k) ∙ omega arith in
        sym (or_pow k x ∙ rw s (split x k))
    go false e =
        let o = eqb-false (bit k x) 1 e in
        let s : bit_or (x / 2 ^ k) 1 ≡ suc (x / 2 ^ k) = or_one (x / 2 ^ k) ∙ omega arith in
        sym (or_pow k x ∙ rw (s, suc-mul) (omega (arith, split x k)))

-- bit_or works bit by bit
bit_or_lem : (j x y : ℕ) → bit j (bit_or x y) ≡ bit_or (bit j x) (bit j y)
bit_or_lem j x y = rw or_shr (or_mod (x / 2 ^ j) (y / 2 ^ j) 1)

-- the bit that was set reads 1, and every other bit as before
pub bit_with_same : (k x : ℕ) → bit k (with_bit k x) ≡ 1
bit_with_same k x = rw (with_bit_or, or_shr, div_self (pow_pos k), or_one) (omega arith)

pub bit_with_other : (j k x : ℕ) → (j ≡ k → ⊥) → bit j (with_bit k x) ≡ bit j x
bit_with_other j k x n = rw with_bit_or (bit_or_lem j x (2 ^ k) ∙ rw (other j k n) (or_zero_r (bit j x)))
  where
    other : (j k : ℕ) → (j ≡ k → ⊥) → bit j (2 ^ k) ≡ 0
    other j k n =
        elim (dec_lt j k) [
          | yes l ↦ let e : k ≡ suc (k - suc j) + j = omega arith in rw (e, pow-add, shl-shr, pow-suc, mul-mod_left)
          | no l ↦ let g : k < j = omega arith in rw (div-eq_of_lt (pow-lt g))
        ]

-- a word of n bits stays one
pub with_bit_lt : (n k x : ℕ) → k < n → x < 2 ^ n → with_bit k x < 2 ^ n
with_bit_lt n k x h l = rw with_bit_or (or_lt n x (2 ^ k) l (pow-lt h))

-- what the test only_bits says: a bound on the word, and one on each of its bits
abbrev within : ℕ → ℕ → ℕ → Bool
within mask word j = leb (bit j word) (bit j mask)

pub only_bits_lt : (mask x : ℕ) → only_bits mask x ≡ true → x < 2 ^ 16
unfolding only_bits
only_bits_lt mask x h = ltb-true x (2 ^ 16) (both (ltb x (2 ^ 16)) (every_below 16 (within mask x)) h).0

pub only_bits_le : (mask x : ℕ) → only_bits mask x ≡ true → (j : ℕ) → j < 16 → bit j x ≤ bit j mask
unfolding only_bits
only_bits_le mask x h j l =
    let t = both (ltb x (2 ^ 16)) (every_below 16 (within mask x)) h in
    leb-true (bit j x) (bit j mask) (below_all 16 (within mask x) t.1 j l)

pub only_bits_from : (mask x : ℕ) → x < 2 ^ 16 → ((j : ℕ) → j < 16 → bit j x ≤ bit j mask)
    → only_bits mask x ≡ true
unfolding only_bits
only_bits_from mask x l h =
    let t = all_below 16 (within mask x) (λ j i. le-leb (bit j x) (bit j mask) (h j i)) in
    both_true (ltb x (2 ^ 16)) (every_below 16 (within mask x)) (lt-ltb x (2 ^ 16) l) t

-- setting a bit of the mask keeps the word within the mask, and so does latching at the positions of a table
pub only_bits_with : (mask k x : ℕ) → k < 16 → bit k mask ≡ 1 → only_bits mask x ≡ true
    → only_bits mask (with_bit k x) ≡ true
only_bits_with mask k x l m h =
    only_bits_from mask (with_bit k x) (with_bit_lt 16 k x l (only_bits_lt mask x h)) (λ j i.
    elim (ℕ_discrete j k) [
      | yes e ↦ rw (e, bit_with_same, m) (omega arith)
      | no d ↦ rw (bit_with_other j k x d) (only_bits_le mask x h j i)
    ])

-- every position of a table is below 16 and set in the mask
abbrev in_mask : ℕ → List ℕ → Bool
in_mask mask [] = true
in_mask mask (k ∷ ks) = ltb k 16 && has_bit k mask && in_mask mask ks

only_bits_latch_in : (mask : ℕ) (ks : List ℕ) (events : List Bool) (x : ℕ) → in_mask mask ks ≡ true
    → only_bits mask x ≡ true → only_bits mask (latch ks events x) ≡ true
unfolding latch
only_bits_latch_in mask [] events x t h = h
only_bits_latch_in mask (k ∷ ks) [] x t h = h
only_bits_latch_in mask (k ∷ ks) (event ∷ events) x t h =
    let parts = both (ltb k 16 && has_bit k mask) (in_mask mask ks) t in
    let first = both (ltb k 16) (has_bit k mask) parts.0 in
    let l = ltb-true k 16 first.0 in
    let m = eqb-true (bit k mask) 1 first.1 in
    only_bits_latch_in mask ks events (cond event (with_bit k x) x) parts.1
    (elim event as (λ b. only_bits mask (cond b (with_bit k x) x) ≡ true) [
      | true ↦ only_bits_with mask k x l m h
      | false ↦ h
    ])

pub only_bits_latch : (events : List Bool) (x : ℕ) → only_bits latched_mask x ≡ true
    → only_bits latched_mask (latch positions events x) ≡ true
only_bits_latch events x h = only_bits_latch_in latched_mask positions events x refl h
