-- Carries against totals: with each place below its limit, adding to the lowest place and carrying is splitting the
-- total, and comparing place by place is comparing totals.
use mathlib.Core.Path.{◌≡◌, sym, ◌∙◌}
use mathlib.Core.Bool.{true, false, ◌||◌, ◌&&◌, cond}
use Prim.Native.Nat.{ℕ, ◌+◌, ◌*◌, ◌-◌, ◌/◌, ◌%◌, ◌<◌, ◌≤◌}
use native.Mathlib.Decide.{dec_lt, ℕ_discrete}
use native.Mathlib.Omega.{arith}
use lib.Dec.{ltb, leb, eqb}
use borrow.Author.Tests.{lt-ltb, le-ltb, le-leb, lt-leb, eq-eqb, ne_eqb}
use Rattle.model.specs.declared.Clock.{Clock}
use Rattle.model.specs.Units.{ns_per_second}
use Rattle.model.specs.Clock.{shown, end_of_time, clock_at}
use Rattle.model.specs.Bounds.{ClockRange}
use Rattle.clock.proofs.Places.{by_place, same_test}
use Rattle.clock.proofs.Carry.{Carries, carries}

-- d more in the fraction, and c seconds carried
module _ (s n f d c : ℕ) (n_low : n < ns_per_second) (f_low : f < 256) (full : c * ns_per_second ≤ n + (f + d) / 256)
    (most : n + (f + d) / 256 < (c + 1) * ns_per_second) where
  fraction : (f + d) % 256 ≡ ((s * ns_per_second + n) * 256 + f + d) % 256
  fraction = omega arith

  nanoseconds : n + (f + d) / 256 - c * ns_per_second ≡ ((s * ns_per_second + n) * 256 + f + d) / 256 % ns_per_second
  nanoseconds = omega arith

  seconds : s + c ≡ ((s * ns_per_second + n) * 256 + f + d) / 256 / ns_per_second
  seconds = omega arith

-- a clock that gains d, place by place
module _ (k : Clock) (d c : ℕ) (i : ClockRange k)
    (full : c * ns_per_second ≤ k.nanoseconds + (k.fraction + d) / 256)
    (most : k.nanoseconds + (k.fraction + d) / 256 < (c + 1) * ns_per_second) where
  abbrev sum : ℕ
  sum = k.nanoseconds + (k.fraction + d) / 256

  pub carried : (r : ℕ)
      → ◌≡◌ {A = Clock}
      (record {
        seconds = k.seconds + c;
        nanoseconds = sum - c * ns_per_second;
        fraction = (k.fraction + d) % 256;
        remainder = r;
      })
      (clock_at (shown k + d) r)
  carried r =
      let p = k.seconds in
      let q = k.nanoseconds in
      let f = k.fraction in
      simp (
        fraction p q f d c i.nanoseconds i.fraction full most,
        nanoseconds p q f d c i.nanoseconds i.fraction full most,
        seconds p q f d c i.nanoseconds i.fraction full most,
      )

-- where the sum reaches a second, one is carried, and else none
module _ (k : Clock) (d c : ℕ) (i : ClockRange k) (low : d ≤ 65536)
    (is : c ≡ cond (leb ns_per_second (k.nanoseconds + (k.fraction + d) / 256)) 1 0) where
  pub second_carries : Carries ns_per_second (k.nanoseconds + (k.fraction + d) / 256) c
  second_carries =
      let f = i.fraction in
      let n = i.nanoseconds in
      carries ns_per_second (k.nanoseconds + (k.fraction + d) / 256) c is (omega arith)

-- a tick of d ends within the last second
pub in_time : (k : Clock) (d : ℕ) → ClockRange k → d ≤ 65536
    → (ltb k.seconds 281474976710655 || ltb (k.nanoseconds * 256 + k.fraction + d) 256000000000)
    ≡ ltb (shown k + d) end_of_time
in_time k d i l = go (dec_lt k.seconds 281474976710655)
  where
    go : Dec (k.seconds < 281474976710655)
        → (ltb k.seconds 281474976710655 || ltb (k.nanoseconds * 256 + k.fraction + d) 256000000000)
        ≡ ltb (shown k + d) end_of_time
    go (yes h) = rw (lt-ltb k.seconds 281474976710655 h, lt-ltb (shown k + d) end_of_time (omega arith))
    go (no h) =
        let e : 281474976710655 ≤ k.seconds = omega arith in
        let m = k.nanoseconds * 256 + k.fraction + d in
        rw (le-ltb k.seconds 281474976710655 e)
        (same_test m 256000000000 (shown k + d) end_of_time (λ x. omega arith) (λ x. omega arith))

-- a start of whole nanoseconds against the time shown, its whole seconds carried
module _ (k : Clock) (s n : ℕ) (i : ClockRange k) where
  start : ℕ
  start = (s * ns_per_second + n) * 256

  earlier : shown k ≤ start → leb (shown k) start ≡ true
  earlier = le-leb (shown k) start

  later : start < shown k → leb (shown k) start ≡ false
  later = lt-leb (shown k) start

  level : k.seconds ≡ s + n / ns_per_second → k.nanoseconds ≡ n % ns_per_second → Dec (k.fraction ≡ 0)
      → leb (shown k) start ≡ eqb k.fraction 0
  unfolding start
  level e d (yes z) = earlier (omega arith) ∙ sym (eq-eqb k.fraction 0 z)
  level e d (no z) = later (omega arith) ∙ sym (ne_eqb k.fraction 0 z)

  pub past_at_once : k.seconds < s → leb (shown k) ((s * ns_per_second + n) * 256) ≡ true
  unfolding start
  past_at_once h = earlier (omega arith)

  pub not_past :
      (ltb k.seconds (s + n / ns_per_second)
      || (eqb k.seconds (s + n / ns_per_second)
      && (ltb k.nanoseconds (n % ns_per_second)
      || (eqb k.nanoseconds (n % ns_per_second) && eqb k.fraction 0))))
      ≡ leb (shown k) ((s * ns_per_second + n) * 256)
  unfolding start
  not_past =
      by_place k.seconds (s + n / ns_per_second) _ (leb (shown k) start)
      (λ h. earlier (omega arith))
      (λ h. later (omega arith))
      (λ e. sym (by_place k.nanoseconds (n % ns_per_second) (eqb k.fraction 0) (leb (shown k) start)
      (λ h. earlier (omega arith))
      (λ h. later (omega arith))
      (λ d. level e d (ℕ_discrete k.fraction 0))))
