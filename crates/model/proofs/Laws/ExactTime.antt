-- Laws of the clock. A tick divides remainder plus amount by 2^24 and loses nothing, so that the exact time grows by
-- just the amount; the bounds of the step are those of the amount.
use Prim.Native.Nat.{ℕ, ◌+◌, ◌*◌, ◌<◌, ◌≤◌, ◌^◌}
use mathlib.Core.Path.{◌≡◌, refl}
use mathlib.Core.Bool.{Bool, true, false}
use native.Mathlib.Omega.{arith}
use lib.Dec.{eqb}
use borrow.Author.Tests.{eqb-false}
use Rattle.model.specs.declared.Clock.{Clock}
use Rattle.model.specs.declared.Adjustment.{Adjustment}
use Rattle.model.specs.declared.Steering.{Steering}
use Rattle.model.specs.Units.{step_unit}
use Rattle.model.specs.Clock.{shown, exact, end_of_time, clock_at, cycle_amount, step_by, remainder_by, ticked}
use Rattle.model.specs.Clock.{no_adjustment, one_less, last_cycle, steering_after, adjusted_by}
use Rattle.model.specs.Ranges.{clock_ok, steering_ok, adjustment_ok}
use Rattle.model.proofs.Laws.Testing.{split}
use Rattle.model.specs.Bounds.{ClockRange, AmountRange, AdjustmentRange}
use Rattle.model.proofs.Laws.InRange.{clock_ok_lem, steering_in, steering_ok_lem, adjustment_in_lem, adjustment_ok_lem}
use Rattle.model.proofs.Laws.InRange.{no_adjustment_in}

-- a step and what it leaves over make remainder plus amount
pub step_left : (k : Clock) (amount : ℕ) → k.remainder + amount ≡ step_by k amount * step_unit + remainder_by k amount
unfolding step_by remainder_by
step_left k amount = omega arith

pub remainder_low : (k : Clock) (amount : ℕ) → remainder_by k amount < step_unit
unfolding remainder_by
remainder_low k amount = omega arith

pub shown_ticked : (k : Clock) (amount : ℕ) → shown (ticked k amount) ≡ shown k + step_by k amount
unfolding ticked
shown_ticked k amount = omega arith

pub remainder_ticked : (k : Clock) (amount : ℕ) → (ticked k amount).remainder ≡ remainder_by k amount
unfolding ticked
remainder_ticked k amount = refl

pub exact_ticked : (k : Clock) (amount : ℕ) → exact (ticked k amount) ≡ exact k + amount
exact_ticked k amount = omega (arith, shown_ticked k amount, remainder_ticked k amount, step_left k amount)

pub shown_low : (k : Clock) → ClockRange k → shown k < end_of_time
shown_low k h = omega arith

-- 256 ≤ S ≤ 65,536
pub step_bounds : (k : Clock) (amount : ℕ) → k.remainder < 2 ^ 24 → AmountRange amount
    → (256 ≤ step_by k amount) × (step_by k amount ≤ 65536)
unfolding step_by
step_bounds k amount r a = omega arith

-- a tick that does not pass the last second leaves a clock in range
pub ticked_ok : (k : Clock) (amount : ℕ) → shown k + step_by k amount < end_of_time → clock_ok (ticked k amount) ≡ true
unfolding ticked
ticked_ok k amount h =
    clock_ok_lem (clock_at (shown k + step_by k amount) (remainder_by k amount)) (omega (arith, remainder_low k amount))

pub cycle_amount_in : (s : Steering) → steering_ok s ≡ true → AmountRange (cycle_amount s)
unfolding cycle_amount
cycle_amount_in s h =
    let f = steering_in s h in
    split AmountRange (eqb s.adjustment.cycles 0)
    (λ e. f.period)
    (λ e. (adjustment_in_lem s.adjustment f.running e).amount)

no_adjustment_ok : adjustment_ok no_adjustment ≡ true
unfolding adjustment_ok
no_adjustment_ok = refl

one_less_ok : (j : Adjustment) → adjustment_ok j ≡ true → (j.cycles ≡ 1 → ⊥) → adjustment_ok (one_less j) ≡ true
one_less_ok j h more = by (eqb j.cycles 0) refl
  where
    by : (b : Bool) → eqb j.cycles 0 ≡ b → adjustment_ok (one_less j) ≡ true
    by true z = rw (no_adjustment_in j h z) no_adjustment_ok
    by false z =
        let a = adjustment_in_lem j h z in
        adjustment_ok_lem _
        (record { amount = a.amount; some = omega (arith, a.some); cycles = omega (arith, a.cycles) })

-- the steering after a cycle is in range: the one that waits was checked like the running one
pub steering_after_ok : (s : Steering) → steering_ok s ≡ true → steering_ok (steering_after s) ≡ true
unfolding steering_after last_cycle
steering_after_ok s h =
    let f = steering_in s h in
    let none = no_adjustment_ok in
    split (λ (x : Steering). steering_ok x ≡ true) (eqb s.adjustment.cycles 1)
    (λ z. steering_ok_lem _ (search))
    (λ z. let more = eqb-false s.adjustment.cycles 1 z in
    steering_ok_lem _
    (record {
      period = f.period;
      running = one_less_ok s.adjustment f.running more;
      waiting = f.waiting;
      behind = λ q. f.behind (omega arith);
    }))

-- and so is the steering after an adjust write that finds the waiting place free
pub adjusted_ok : (s : Steering) (j : Adjustment) → steering_ok s ≡ true → AdjustmentRange j → s.waiting.cycles ≡ 0
    → steering_ok (adjusted_by s j) ≡ true
unfolding adjusted_by
adjusted_ok s j h new free =
    let f = steering_in s h in
    let ok = adjustment_ok_lem j new in
    split (λ (x : Steering). steering_ok x ≡ true) (eqb s.adjustment.cycles 0)
    (λ z. steering_ok_lem _ (search))
    (λ z. let some = eqb-false s.adjustment.cycles 0 z in
    let behind : s.adjustment.cycles ≡ 0 → j.cycles ≡ 0 = λ q. absurd (some q) in
    steering_ok_lem _ (search))
