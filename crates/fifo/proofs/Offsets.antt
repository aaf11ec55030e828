-- An offset and half a nanosecond added below the nanoseconds: what they carry up is what dividing the whole total
-- gives, since seconds and nanoseconds are whole multiples of 2048 in it. In a tick that ends in time they come to the
-- first nanosecond past the last second at most. The carry is kept but there, where one nanosecond less is the last.
use mathlib.Core.Path.{◌≡◌, refl}
use mathlib.Core.Bool.{Bool, true, false, cond}
use Prim.Native.Nat.{ℕ, ◌+◌, ◌*◌, ◌-◌, ◌/◌, ◌%◌, ◌^◌, ◌<◌, ◌≤◌, min}
use lib.Dec.{leb}
use native.Mathlib.Omega.{arith}
use borrow.Author.Tests.{leb-true, leb-false}
use Rattle.model.specs.declared.Clock.{Clock}
use Rattle.model.specs.Units.{ns_per_second}
use Rattle.model.specs.Clock.{shown, end_of_time}
use Rattle.model.specs.Fifo.{last_nanosecond}

-- ---- the nearest nanosecond

module _ (k : Clock) (offset : ℕ) where
  abbrev below : ℕ
  below = k.nanoseconds + (8 * k.fraction + offset + 1024) / 2048

  pub rounded : k.seconds * ns_per_second + below ≡ (8 * shown k + offset + 8 * 128) / (8 * 256)
  rounded = omega arith

  pub not_past : 8 * shown k + offset < 8 * end_of_time → k.seconds * ns_per_second + below ≤ 2 ^ 48 * ns_per_second
  not_past near = rw rounded (omega (arith, near))

-- ---- a carry that is kept, or else past the last second

pub no_more : (test : Bool) (carry past : ℕ) → past ≡ cond test carry 0 → past ≤ carry
no_more true carry past e = omega arith
no_more false carry past e = omega arith

pub left_below : (test : Bool) (ns carry past : ℕ) → past ≡ cond test carry 0 → carry * ns_per_second ≤ ns
    → (carry - past) * ns_per_second ≤ ns - past
left_below true ns carry past e h = omega arith
left_below false ns carry past e h = omega arith

-- ---- seconds and nanoseconds of a total

abbrev InSecond : ℕ → ℕ → ℕ → Type 0
InSecond s m t = (s ≡ t / ns_per_second) × (m ≡ t % ns_per_second)

in_second_lem : (s m t : ℕ) → m < ns_per_second → t ≡ s * ns_per_second + m → InSecond s m t
in_second_lem s m t h e = (rw e (omega arith), rw e (omega arith))

module _ (s ns : ℕ) (low : ns < 2000000000) (reach : s * ns_per_second + ns ≤ 2 ^ 48 * ns_per_second) where
  abbrev carry : ℕ
  carry = ns / ns_per_second

  -- the timestamp, as far as the carry that is not kept
  abbrev Split : ℕ → Type 0
  Split past =
      InSecond (s + (carry - past)) (ns - past - (carry - past) * ns_per_second)
      (min last_nanosecond (s * ns_per_second + ns))

  at_last : s ≡ 281474976710655 → Split carry
  at_last e =
      let few : ns ≤ ns_per_second = omega (arith, e) in
      in_second_lem _ _ _ (omega (arith, few)) (rw e (omega (arith, few)))

  before_last : s < 281474976710655 → Split 0
  before_last h = in_second_lem _ _ _ (omega arith) (omega arith)

  pub kept_but_at_the_end : (past : ℕ) → past ≡ cond (leb 281474976710655 s) carry 0 → s < 2 ^ 48 → Split past
  kept_but_at_the_end past is small = rw is (go (leb 281474976710655 s) refl)
    where
      go : (last : Bool) → leb 281474976710655 s ≡ last → Split (cond last carry 0)
      go true e = at_last (omega (arith, leb-true))
      go false e = before_last (omega (arith, leb-false))
