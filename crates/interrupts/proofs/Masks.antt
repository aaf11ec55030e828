-- bit_or takes each bit from the word that has it set, so it changes nothing of a mask exactly where the mask has
-- every bit of the word. One way, a word and its bits are at most those of what it is or-ed into; the other is by
-- induction on the width, from the low end.
use mathlib.Core.Path.{◌≡◌, refl, sym, ◌∙◌}
use mathlib.Core.Bool.{Bool, true, false}
use Prim.Native.Nat.{ℕ, zero, suc, ◌/◌, ◌%◌, ◌^◌, ◌+◌, ◌<◌, ◌≤◌}
use native.Mathlib.Nat.{max-eq_right, pow-suc, div-add-mod'}
use native.Mathlib.Omega.{arith}
use lib.Bits.{bit_or, or_shr, or_mod, or_step, or_add_and, and_le_r}
use lib.Dec.{eqb}
use lib.Pow.{shr-shr}
use borrow.Author.Tests.{eqb-true, eq-eqb}
use Rattle.model.specs.Interrupts.{bit, only_bits}
use Rattle.model.proofs.Laws.Bits.{only_bits_lt, only_bits_le, only_bits_from}

pub le_or : (x y : ℕ) → x ≤ bit_or x y
le_or x y = omega (arith, or_add_and x y, and_le_r x y)

bit_le_or : (j x y : ℕ) → bit j x ≤ bit j (bit_or x y)
bit_le_or j x y = rw (or_shr, or_mod (x / 2 ^ j) (y / 2 ^ j) 1) (le_or (bit j x) (bit j y))

or_absorbs : (n mask word : ℕ) → word < 2 ^ n → ((j : ℕ) → j < n → bit j word ≤ bit j mask) → bit_or word mask ≡ mask
or_absorbs zero mask word l h = let e : word ≡ 0 = omega arith in rw e
or_absorbs (suc n) mask word l h =
    let low : word % 2 ≤ mask % 2 = omega (arith, h 0 (omega arith)) in
    let high = or_absorbs n (mask / 2) (word / 2) (omega (arith, pow-suc 2 n)) rest in
    or_step word mask ∙ rw (high, max-eq_right low) (div-add-mod' mask 2)
  where
    rest : (j : ℕ) → j < n → bit j (word / 2) ≤ bit j (mask / 2)
    rest j i = rw (shr-shr word 1 j, shr-shr mask 1 j) (h (1 + j) (omega arith))

-- tests that imply each other are one
pub both_ways : (a b : Bool) → (a ≡ true → b ≡ true) → (b ≡ true → a ≡ true) → a ≡ b
both_ways true b f g = sym (f refl)
both_ways false true f g = g refl
both_ways false false f g = refl

pub or_only_bits : (mask word : ℕ) → mask < 2 ^ 16 → eqb (bit_or word mask) mask ≡ only_bits mask word
or_only_bits mask word l = both_ways (eqb (bit_or word mask) mask) (only_bits mask word) within absorbed
  where
    within : eqb (bit_or word mask) mask ≡ true → only_bits mask word ≡ true
    within t =
        let e = eqb-true (bit_or word mask) mask t in
        only_bits_from mask word (omega (arith, le_or word mask)) (λ j i. rw e at (bit_le_or j word mask))

    absorbed : only_bits mask word ≡ true → eqb (bit_or word mask) mask ≡ true
    absorbed t =
        eq-eqb (bit_or word mask) mask (or_absorbs 16 mask word (only_bits_lt mask word t) (only_bits_le mask word t))
