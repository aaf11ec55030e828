-- The clock after n cycles, by formula. The exact time is a sum, which one more cycle's amount continues: in each phase
-- that is the amount of the phase.
use Prim.Native.Nat.{ℕ, suc, ◌+◌, ◌*◌, ◌-◌, ◌/◌, ◌%◌, ◌≤◌, ◌^◌, min}
use mathlib.Core.Path.{◌≡◌, refl}
use mathlib.Core.Bool.{Bool, true, false, cond}
use native.Mathlib.Nat.{mul-le-mul_right}
use native.Mathlib.Omega.{arith}
use lib.Dec.{eqb, leb}
use borrow.Author.Tests.{leb-true, leb-false, ne_eqb}
use Rattle.model.specs.declared.Clock.{Clock}
use Rattle.model.specs.declared.Adjustment.{Adjustment}
use Rattle.model.specs.declared.Steering.{Steering}
use Rattle.model.specs.Clock
use Rattle.model.specs.Bounds.{ClockRange}
use Rattle.model.specs.Elapse.{amount_of, spent_by, steering_by}
use Rattle.model.proofs.Laws.Testing.{split}

-- the clock at an exact time x: what a tick adds, it adds to x
pub shown_on : (x amount : ℕ)
    → Clock.shown (Clock.clock_at_exact x) + Clock.step_by (Clock.clock_at_exact x) amount ≡ (x + amount) / 2 ^ 24
unfolding Clock.clock_at_exact Clock.step_by
shown_on x amount = omega arith

remainder_on : (x amount : ℕ) → Clock.remainder_by (Clock.clock_at_exact x) amount ≡ (x + amount) % 2 ^ 24
unfolding Clock.clock_at_exact Clock.remainder_by
remainder_on x amount = omega arith

pub clock_on : (x amount : ℕ) → Clock.ticked (Clock.clock_at_exact x) amount ≡ Clock.clock_at_exact (x + amount)
unfolding Clock.ticked Clock.clock_at_exact
clock_on x amount =
    let t = shown_on x amount in
    let r = remainder_on x amount in
    λ i. Clock.clock_at (t i) (r i)

-- a clock in range is the clock at its exact time
pub clock_start : (k : Clock) → ClockRange k → Clock.clock_at_exact (Clock.exact k) ≡ k
unfolding Clock.clock_at_exact
clock_start k h =
    let s : (Clock.clock_at_exact (Clock.exact k)).seconds ≡ k.seconds = omega arith in
    let n : (Clock.clock_at_exact (Clock.exact k)).nanoseconds ≡ k.nanoseconds = omega arith in
    let f : (Clock.clock_at_exact (Clock.exact k)).fraction ≡ k.fraction = omega arith in
    let r : (Clock.clock_at_exact (Clock.exact k)).remainder ≡ k.remainder = omega arith in
    λ i. record { seconds = s i; nanoseconds = n i; fraction = f i; remainder = r i }

-- what the cycles bring: 0 at first
pub amount_zero : (s : Steering) → amount_of s 0 ≡ 0
unfolding amount_of
amount_zero s =
    let c = s.adjustment.cycles in
    let d = s.waiting.cycles in
    let first : min 0 c ≡ 0 = omega arith in
    let second : min (0 - c) d ≡ 0 = omega arith in
    let third : 0 - c - d ≡ 0 = omega arith in
    rw (first, second, third) (omega arith)

-- an adjustment with cycles left steers, and where none is left PERIOD does
steers : (s : Steering) (j : Adjustment) (n : ℕ) → s.adjustment ≡ spent_by j n
    → Clock.cycle_amount s ≡ cond (leb j.cycles n) s.period j.amount
unfolding spent_by Clock.cycle_amount
steers s j n is = rw is (by (leb j.cycles n) refl)
  where
    left : Adjustment
    left = record { amount = j.amount; cycles = j.cycles - n }

    by : (b : Bool) → leb j.cycles n ≡ b
        → cond (eqb (cond b Clock.no_adjustment left).cycles 0) s.period (cond b Clock.no_adjustment left).amount
        ≡ cond b s.period j.amount
    by true e = refl
    by false e = rw (ne_eqb (j.cycles - n) 0 (λ z. omega (arith, leb-false)))

-- the amount of the cycle after n, by its phase
amount_after : (s : Steering) (n : ℕ)
    → Clock.cycle_amount (steering_by s n)
    ≡ cond (leb s.adjustment.cycles n)
    (cond (leb s.waiting.cycles (n - s.adjustment.cycles)) s.period s.waiting.amount)
    s.adjustment.amount
unfolding steering_by
amount_after s n = by (leb s.adjustment.cycles n) refl
  where
    over : Steering
    over = record {
      period = s.period;
      adjustment = spent_by s.waiting (n - s.adjustment.cycles);
      waiting = Clock.no_adjustment;
    }

    still : Steering
    still = record { period = s.period; adjustment = spent_by s.adjustment n; waiting = s.waiting }

    by : (b : Bool) → leb s.adjustment.cycles n ≡ b
        → Clock.cycle_amount (cond b over still)
        ≡ cond b (cond (leb s.waiting.cycles (n - s.adjustment.cycles)) s.period s.waiting.amount)
        s.adjustment.amount
    by true e = steers over s.waiting (n - s.adjustment.cycles) refl
    by false e = rw (steers still s.adjustment n refl, e)

-- one cycle more: of a phase of c cycles of one amount, or of the course after it
module _ (c amount : ℕ) (rest more : ℕ → ℕ) (law : (m : ℕ) → rest (suc m) ≡ rest m + more m) where
  one_more : (n : ℕ)
      → min (suc n) c * amount + rest (suc n - c)
      ≡ min n c * amount + rest (n - c) + cond (leb c n) (more (n - c)) amount
  one_more n = split Sum (leb c n) over still
    where
      Sum : ℕ → Type 0
      Sum x = min (suc n) c * amount + rest (suc n - c) ≡ min n c * amount + rest (n - c) + x

      over : leb c n ≡ true → Sum (more (n - c))
      over e =
          let l = leb-true c n e in
          let m : min (suc n) c ≡ min n c = omega arith in
          let d : suc n - c ≡ suc (n - c) = omega arith in
          rw (m, d, law) (omega arith)

      still : leb c n ≡ false → Sum amount
      still e =
          let l = leb-false c n e in
          let m : min (suc n) c ≡ suc (min n c) = omega arith in
          let d : suc n - c ≡ n - c = omega arith in
          rw (m, d) (omega arith)

-- each cycle brings the amount of the steering before it
pub amount_suc : (s : Steering) (n : ℕ) → amount_of s (suc n) ≡ amount_of s n + Clock.cycle_amount (steering_by s n)
unfolding amount_of
amount_suc s n =
    rw amount_after
    (one_more s.adjustment.cycles s.adjustment.amount
    (λ m. min m s.waiting.cycles * s.waiting.amount + (m - s.waiting.cycles) * s.period)
    (λ m. cond (leb s.waiting.cycles m) s.period s.waiting.amount)
    (one_more s.waiting.cycles s.waiting.amount (λ m. m * s.period) (λ m. s.period) (λ m. omega arith))
    n)

-- so more cycles bring no less
phase_grows : (c amount : ℕ) (rest : ℕ → ℕ) → ((n m : ℕ) → n ≤ m → rest n ≤ rest m) → (n m : ℕ) → n ≤ m
    → min n c * amount + rest (n - c) ≤ min m c * amount + rest (m - c)
phase_grows c amount rest grows n m h =
    let first : min n c ≤ min m c = omega arith in
    let after : n - c ≤ m - c = omega arith in
    omega (arith, mul-le-mul_right amount first, grows (n - c) (m - c) after)

pub amount_grows : (s : Steering) (n m : ℕ) → n ≤ m → amount_of s n ≤ amount_of s m
unfolding amount_of
amount_grows s =
    phase_grows s.adjustment.cycles s.adjustment.amount
    (λ m. min m s.waiting.cycles * s.waiting.amount + (m - s.waiting.cycles) * s.period)
    (phase_grows s.waiting.cycles s.waiting.amount (λ m. m * s.period)
    (λ n m h. mul-le-mul_right s.period h))
