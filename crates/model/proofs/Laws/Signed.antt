-- A pattern of 64 bits and the signed number that it stands for are one to one, since each half of the patterns stands
-- for one half of the numbers in order; and a sum that stays within 64 signed bits has the sum of the patterns for its
-- own, taken modulo 2^64.
use Prim.Native.Nat.{ℕ, suc, ◌+◌, ◌-◌, ◌%◌, ◌^◌, ◌≤◌, ◌<◌}
use mathlib.Core.Path.{◌≡◌, refl, sym, ap, ◌∙◌}
use mathlib.Core.Logic.{◌⊎◌, inl, inr}
use mathlib.Core.Bool.{true, false, true≢false}
use native.Mathlib.Decide.{dec_le}
use native.Mathlib.Omega.{arith}
use lib.Dec.{ltb}
use lib.IntN.{ℤ, pos, negsuc, ◌+ℤ◌}
use borrow.Author.Tests.{ltb-true, lt-ltb, le-ltb}
use Rattle.model.specs.Departure.{signed, fits64, pattern_of}

module _ (p : ℕ) where
  pub signed_small : p < 2 ^ 63 → signed p ≡ pos p
  signed_small h = rw (lt-ltb p (2 ^ 63) h) refl

  pub signed_large : 2 ^ 63 ≤ p → p < 2 ^ 64 → signed p ≡ negsuc (2 ^ 64 - suc p)
  signed_large h low = rw (le-ltb p (2 ^ 63) h, lt-ltb p (2 ^ 64) low) refl

pub pattern_low : (z : ℤ) → fits64 z ≡ true → pattern_of z < 2 ^ 64
pattern_low (pos n) h = omega (arith, ltb-true n (2 ^ 63) h)
pattern_low (negsuc n) h = omega arith

pub signed_pattern : (z : ℤ) → fits64 z ≡ true → signed (pattern_of z) ≡ z
signed_pattern (pos n) h = signed_small n (ltb-true n (2 ^ 63) h)
signed_pattern (negsuc n) h =
    let low = ltb-true n (2 ^ 63) h in
    let back : 2 ^ 64 - suc (2 ^ 64 - suc n) ≡ n = omega arith in
    signed_large (2 ^ 64 - suc n) (omega arith) (omega arith) ∙ ap negsuc back

-- the sum of a field and of less than 2^63 that is added
module _ (p d : ℕ) (low : p < 2 ^ 64) (few : d < 2 ^ 63) where
  abbrev sum : ℤ
  sum = signed p +ℤ pos d

  sum_small : p < 2 ^ 63 → sum ≡ pos (p + d)
  sum_small h = rw (signed_small p h) refl

  sum_negative : 2 ^ 63 ≤ p → p + d < 2 ^ 64 → sum ≡ negsuc (2 ^ 64 - suc (p + d))
  sum_negative h below =
      let rest : suc (2 ^ 64 - suc p) - suc d ≡ 2 ^ 64 - suc (p + d) = omega arith in
      rw (signed_large p h low, lt-ltb d (suc (2 ^ 64 - suc p)) (omega arith)) (ap negsuc rest)

  sum_passes_zero : 2 ^ 63 ≤ p → 2 ^ 64 ≤ p + d → sum ≡ pos (p + d - 2 ^ 64)
  sum_passes_zero h above =
      let rest : d - suc (2 ^ 64 - suc p) ≡ p + d - 2 ^ 64 = omega arith in
      rw (signed_large p h low, le-ltb d (suc (2 ^ 64 - suc p)) (omega arith)) (ap pos rest)

  pub small_test : p < 2 ^ 63 → fits64 sum ≡ ltb (p + d) (2 ^ 63)
  small_test h = ap fits64 (sum_small h)

  -- it leaves 64 signed bits at the upper end alone
  pub sum_leaves : p < 2 ^ 63 → 2 ^ 63 ≤ p + d → fits64 sum ≡ false
  sum_leaves h above = small_test h ∙ le-ltb (p + d) (2 ^ 63) above

  -- elsewhere it stays, and its pattern is the sum of the two
  abbrev Stays : Type 0
  Stays = (fits64 sum ≡ true) × (pattern_of sum ≡ (p + d) % 2 ^ 64)

  stays_small : p < 2 ^ 63 → p + d < 2 ^ 63 → Stays
  stays_small h below =
      let is = sum_small h in
      let rest : p + d ≡ (p + d) % 2 ^ 64 = omega arith in
      (small_test h ∙ lt-ltb (p + d) (2 ^ 63) below, ap pattern_of is ∙ rest)

  stays_large : 2 ^ 63 ≤ p → Stays
  stays_large h =
      elim (dec_le (2 ^ 64) (p + d)) [
        | yes above ↦
            let is = sum_passes_zero h above in
            let rest : p + d - 2 ^ 64 ≡ (p + d) % 2 ^ 64 = omega arith in
            (ap fits64 is ∙ lt-ltb (p + d - 2 ^ 64) (2 ^ 63) (omega arith), ap pattern_of is ∙ rest)
        | no below ↦
            let is = sum_negative h (omega arith) in
            let rest : 2 ^ 64 - suc (2 ^ 64 - suc (p + d)) ≡ (p + d) % 2 ^ 64 = omega arith in
            (ap fits64 is ∙ lt-ltb (2 ^ 64 - suc (p + d)) (2 ^ 63) (omega arith), ap pattern_of is ∙ rest)
      ]

  pub sum_stays : (2 ^ 63 ≤ p) ⊎ (p + d < 2 ^ 63) → Stays
  sum_stays (inl h) = stays_large h
  sum_stays (inr below) = stays_small (omega arith) below

  pub left_where : fits64 sum ≡ false → (p < 2 ^ 63) × (2 ^ 63 ≤ p + d)
  left_where h =
      elim (dec_le (2 ^ 63) p) [
        | yes large ↦ absurd (true≢false (sym (sum_stays (inl large)).0 ∙ h))
        | no small ↦ elim (dec_le (2 ^ 63) (p + d)) [
          | yes above ↦ (omega arith, above)
          | no below ↦ absurd (true≢false (sym (sum_stays (inr (omega arith))).0 ∙ h))
        ]
      ]

  pub sum_pattern : fits64 sum ≡ true → pattern_of sum ≡ (p + d) % 2 ^ 64
  sum_pattern h =
      elim (dec_le (2 ^ 63) p) [
        | yes large ↦ (sum_stays (inl large)).1
        | no small ↦ elim (dec_le (2 ^ 63) (p + d)) [
          | yes above ↦ absurd (true≢false (sym h ∙ sum_leaves (omega arith) above))
          | no below ↦ (sum_stays (inr (omega arith))).1
        ]
      ]
