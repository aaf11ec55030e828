-- That products and sums fit into 64 bits: an amount is below 2^40 and a million of them below 2^60, less than a
-- second.
use Prim.Native.Nat.{ℕ, ◌+◌, ◌*◌, ◌-◌, ◌/◌, ◌%◌, ◌≤◌, ◌<◌, ◌^◌, min}
use mathlib.Core.Path.{◌≡◌, refl}
use mathlib.Core.Bool.{Bool, true, false}
use native.Mathlib.Nat.{mul-le-mul, mul-le-mul_left}
use native.Mathlib.Omega.{arith}
use lib.Dec.{eqb}
use Rattle.model.specs.declared.Clock.{Clock}
use Rattle.model.specs.declared.Adjustment.{Adjustment}
use Rattle.model.specs.declared.Steering.{Steering}
use Rattle.model.specs.Clock.{exact, clock_at_exact}
use Rattle.model.specs.Elapse.{amount_of}
use Rattle.model.specs.Ranges.{adjustment_ok, steering_ok}
use Rattle.model.proofs.Laws.InRange.{steering_in, adjustment_in_lem, no_adjustment_in}
use Rattle.elapse.specs.Seconds.{second, in_second}

-- the exact time, cut at the second shown
pub from_second : (k : Clock) (x : ℕ) → k.seconds * second + (in_second k + x) ≡ exact k + x
from_second k x = omega arith

-- an adjustment, running or not, is of few cycles and a small amount
pub adjustment_low : (j : Adjustment) → adjustment_ok j ≡ true → (j.cycles < 2 ^ 24) × (j.amount < 2 ^ 40)
adjustment_low j h = by (eqb j.cycles 0) refl
  where
    by : (b : Bool) → eqb j.cycles 0 ≡ b → (j.cycles < 2 ^ 24) × (j.amount < 2 ^ 40)
    by true z = rw (no_adjustment_in j h z) (omega arith, omega arith)
    by false z = let a = adjustment_in_lem j h z in (a.cycles, a.amount.high)

-- a million cycles are shorter than a second, in whatever phases they come
three_low : (x y z a b p : ℕ) → x + (y + z) ≤ 1000000 → a < 2 ^ 40 → b < 2 ^ 40 → p < 2 ^ 40
    → x * a + (y * b + z * p) < 2 ^ 60
three_low x y z a b p few ha hb hp =
    let a' : a ≤ 2 ^ 40 = omega arith in
    let b' : b ≤ 2 ^ 40 = omega arith in
    let p' : p ≤ 2 ^ 40 = omega arith in
    omega (arith, mul-le-mul_left x a', mul-le-mul_left y b', mul-le-mul_left z p')

-- and so are those of one phase
pub phase_low : (x a : ℕ) → x ≤ 1000000 → a < 2 ^ 40 → x * a < 2 ^ 60
phase_low x a few low = let a' : a ≤ 2 ^ 40 = omega arith in omega (arith, mul-le-mul_left x a')

phase_all : (n c : ℕ) → min n c + (n - c) ≡ n
phase_all n c = omega arith

pub amount_low : (s : Steering) → steering_ok s ≡ true → (n : ℕ) → n ≤ 1000000 → amount_of s n < 2 ^ 60
unfolding amount_of
amount_low s h n few =
    let f = steering_in s h in
    let c = s.adjustment.cycles in
    three_low _ _ _ _ _ _
    (rw (phase_all (n - c) s.waiting.cycles, phase_all n c) few)
    (adjustment_low s.adjustment f.running).1 (adjustment_low s.waiting f.waiting).1 f.period.high

-- an adjustment's cycles times its amount
pub product_fits : (j : Adjustment) → adjustment_ok j ≡ true → j.cycles * j.amount < 2 ^ 64
product_fits j h =
    let low = adjustment_low j h in
    let c : j.cycles ≤ 2 ^ 24 - 1 = omega arith in
    let a : j.amount ≤ 2 ^ 40 - 1 = omega arith in
    omega (arith, mul-le-mul c a)

-- what the cycles bring: PERIOD's amount where no adjustment runs, and else by the phase of the last
module _ (s : Steering) (n : ℕ) where
  pub in_none : steering_ok s ≡ true → s.adjustment.cycles ≡ 0 → amount_of s n ≡ n * s.period
  unfolding amount_of
  in_none h z =
      let none = (steering_in s h).behind z in
      let first : min n s.adjustment.cycles ≡ 0 = omega arith in
      let second : min (n - s.adjustment.cycles) s.waiting.cycles ≡ 0 = omega arith in
      let all : n - s.adjustment.cycles - s.waiting.cycles ≡ n = omega arith in
      rw (first, second, all) (omega arith)

  pub in_first : n ≤ s.adjustment.cycles → amount_of s n ≡ n * s.adjustment.amount
  unfolding amount_of
  in_first h =
      let all : min n s.adjustment.cycles ≡ n = omega arith in
      let none : n - s.adjustment.cycles ≡ 0 = omega arith in
      let second : min 0 s.waiting.cycles ≡ 0 = omega arith in
      let third : 0 - s.waiting.cycles ≡ 0 = omega arith in
      rw (all, none, second, third) (omega arith)

  pub in_second_lem : s.adjustment.cycles ≤ n → n - s.adjustment.cycles ≤ s.waiting.cycles
      → amount_of s n ≡ s.adjustment.cycles * s.adjustment.amount + (n - s.adjustment.cycles) * s.waiting.amount
  unfolding amount_of
  in_second_lem h l =
      let first : min n s.adjustment.cycles ≡ s.adjustment.cycles = omega arith in
      let all : min (n - s.adjustment.cycles) s.waiting.cycles ≡ n - s.adjustment.cycles = omega arith in
      let third : n - s.adjustment.cycles - s.waiting.cycles ≡ 0 = omega arith in
      rw (first, all, third) (omega arith)

  pub in_third : s.adjustment.cycles ≤ n → s.waiting.cycles ≤ n - s.adjustment.cycles
      → amount_of s n
      ≡ s.adjustment.cycles * s.adjustment.amount + s.waiting.cycles * s.waiting.amount
      + (n - s.adjustment.cycles - s.waiting.cycles) * s.period
  unfolding amount_of
  in_third h l =
      let first : min n s.adjustment.cycles ≡ s.adjustment.cycles = omega arith in
      let second : min (n - s.adjustment.cycles) s.waiting.cycles ≡ s.waiting.cycles = omega arith in
      rw (first, second) (omega arith)

-- the clock of a time within a second, and of one in the next
pub clock_parts : (s y c : ℕ) → c * second ≤ y → y < (c + 1) * second
    → clock_at_exact (s * second + y)
    ≡ record {
      seconds = s + c;
      nanoseconds = (y - c * second) / 2 ^ 32;
      fraction = (y - c * second) / 2 ^ 24 % 256;
      remainder = (y - c * second) % 2 ^ 24;
    }
unfolding clock_at_exact
clock_parts s y c low high =
    let x = s * second + y in
    let seconds : (clock_at_exact x).seconds ≡ s + c = omega arith in
    let nanoseconds : (clock_at_exact x).nanoseconds ≡ (y - c * second) / 2 ^ 32 = omega arith in
    let fraction : (clock_at_exact x).fraction ≡ (y - c * second) / 2 ^ 24 % 256 = omega arith in
    let remainder : (clock_at_exact x).remainder ≡ (y - c * second) % 2 ^ 24 = omega arith in
    λ i. record { seconds = seconds i; nanoseconds = nanoseconds i; fraction = fraction i; remainder = remainder i }
