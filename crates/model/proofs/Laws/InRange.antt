-- The ranges of check 4 as facts, part by part, both ways: each test of a list is one comparison.
use Prim.Native.Nat.{ℕ, ◌≤◌, ◌^◌}
use mathlib.Core.Path.{◌≡◌, refl}
use mathlib.Core.Bool.{Bool, true, false, ◌||◌, not}
use native.Mathlib.Omega.{arith}
use lib.Dec.{eqb, leb, ltb}
use borrow.Author.Tests.{not-false, eqb-true, not-true, ltb-true, leb-true, eqb-false, ltb-false, lt-ltb, le-leb}
use borrow.Author.Tests.{eq-eqb, ne_eqb, le-ltb}
use Rattle.model.specs.declared.Clock.{Clock}
use Rattle.model.specs.declared.Adjustment.{Adjustment}
use Rattle.model.specs.declared.Steering.{Steering}
use Rattle.model.specs.declared.Generator.{Generator}
use Rattle.model.specs.declared.Words.{Words}
use Rattle.model.specs.declared.Engine.{Engine}
use Rattle.model.specs.Tests.{every}
use Rattle.model.specs.Clock.{shown, no_adjustment}
use Rattle.model.specs.Generator.{is_running, is_before, idle_generator}
use Rattle.model.specs.Ranges
use Rattle.model.specs.Bounds.{ClockRange, AmountRange, AdjustmentRange, RunningRange, WordsRange}
use Rattle.model.proofs.Laws.Testing.{facts, all_of, both, both_true, or_left, or_right}

pub clock_in : (k : Clock) → Ranges.clock_ok k ≡ true → ClockRange k
unfolding Ranges.clock_ok
clock_in k h = let f = facts (Ranges.clock_tests k) h in omega (arith, ltb-true)

pub clock_ok_lem : (k : Clock) → ClockRange k → Ranges.clock_ok k ≡ true
unfolding Ranges.clock_ok
clock_ok_lem k h = all_of (Ranges.clock_tests k) (omega (arith, lt-ltb))

pub amount_in : (x : ℕ) → Ranges.amount_ok x ≡ true → AmountRange x
amount_in x h = let f = both (leb (2 ^ 32) x) (ltb x (2 ^ 40)) h in omega (arith, ltb-true, leb-true)

pub amount_ok : (x : ℕ) → AmountRange x → Ranges.amount_ok x ≡ true
amount_ok x h = both_true _ _ (le-leb _ _ h.low) (lt-ltb _ _ h.high)

-- PERIOD and both adjustments, of which one waits only behind a running one
pub record SteeringRange (s : Steering) : Type 0 where
  pub period : AmountRange s.period
  pub running : Ranges.adjustment_ok s.adjustment ≡ true
  pub waiting : Ranges.adjustment_ok s.waiting ≡ true
  pub behind : s.adjustment.cycles ≡ 0 → s.waiting.cycles ≡ 0

pub steering_in : (s : Steering) → Ranges.steering_ok s ≡ true → SteeringRange s
unfolding Ranges.steering_ok
steering_in s h =
    let f = facts (Ranges.steering_tests s) h in
    record {
      period = amount_in s.period f.0;
      running = f.1.0;
      waiting = f.1.1.0;
      behind = λ z. eqb-true _ 0 (or_left (eqb s.waiting.cycles 0) _ f.1.1.1.0 (none z));
    }
  where
    none : s.adjustment.cycles ≡ 0 → not (eqb s.adjustment.cycles 0) ≡ false
    none z = rw (eq-eqb s.adjustment.cycles 0 z)

pub steering_ok_lem : (s : Steering) → SteeringRange s → Ranges.steering_ok s ≡ true
unfolding Ranges.steering_ok
steering_ok_lem s h =
    all_of (Ranges.steering_tests s)
    (amount_ok s.period h.period, (h.running, (h.waiting, (behind, tt))))
  where
    by : (b : Bool) → eqb s.adjustment.cycles 0 ≡ b → (eqb s.waiting.cycles 0 || not b) ≡ true
    by true z = simp (eq-eqb s.waiting.cycles 0 (h.behind (eqb-true _ 0 z)))
    by false z = or_right (eqb s.waiting.cycles 0) true refl

    behind : Ranges.waits_behind s ≡ true
    behind = by (eqb s.adjustment.cycles 0) refl

pub adjustment_in_lem : (j : Adjustment) → Ranges.adjustment_ok j ≡ true → eqb j.cycles 0 ≡ false → AdjustmentRange j
unfolding Ranges.adjustment_ok
adjustment_in_lem j h e =
    let f = both (Ranges.amount_ok j.amount) (ltb j.cycles (2 ^ 24)) (rw e at h) in
    let n = eqb-false j.cycles 0 e in
    record { amount = amount_in j.amount f.0; some = omega arith; cycles = ltb-true _ _ f.1 }

pub adjustment_ok_lem : (j : Adjustment) → AdjustmentRange j → Ranges.adjustment_ok j ≡ true
unfolding Ranges.adjustment_ok
adjustment_ok_lem j h =
    let e = ne_eqb j.cycles 0 (omega arith) in
    rw e (both_true _ _ (amount_ok j.amount h.amount) (lt-ltb _ _ h.cycles))

-- an idle adjustment is all zeros
pub no_adjustment_in : (j : Adjustment) → Ranges.adjustment_ok j ≡ true → eqb j.cycles 0 ≡ true → j ≡ no_adjustment
unfolding Ranges.adjustment_ok
no_adjustment_in j h e =
    let amount = eqb-true _ _ (rw e at h) in
    let cycles = eqb-true _ _ e in
    λ i. record { amount = amount i; cycles = cycles i }

ltb_not : (a b : ℕ) → not (ltb a b) ≡ true → b ≤ a
ltb_not a b h = ltb-false a b (not-true (ltb a b) h)

pub running_in : (g : Generator) (now : ℕ) → Ranges.generator_ok g now ≡ true → is_running g ≡ true → RunningRange g now
unfolding Ranges.generator_ok is_before
running_in g now h r =
    let t = both (every (Ranges.running_tests g)) (not (is_before g now)) (rw r at h) in
    let f = facts (Ranges.running_tests g) t.0 in
    let some = eqb-false g.left 0 (not-true (eqb g.left 0) r) in
    omega (arith, ltb-true, leb-true, ltb_not)

not_ltb : (a b : ℕ) → b ≤ a → not (ltb a b) ≡ true
not_ltb a b h = rw (le-ltb a b h)

pub running_ok : (g : Generator) (now : ℕ) → RunningRange g now → Ranges.generator_ok g now ≡ true
unfolding Ranges.generator_ok is_before
running_ok g now h =
    let r = ne_eqb g.left 0 (omega arith) in
    let t = all_of (Ranges.running_tests g) (omega (arith, lt-ltb, le-leb)) in
    rw r (both_true (every (Ranges.running_tests g)) (not (is_before g now)) t (omega (arith, not_ltb)))

-- an idle generator is all zeros
record Zeros (g : Generator) : Type 0 where
  seconds : g.pending.seconds ≡ 0
  nanoseconds : g.pending.nanoseconds ≡ 0
  remainder : g.pending.remainder ≡ 0
  whole : g.whole ≡ 0
  numerator : g.numerator ≡ 0
  denominator : g.denominator ≡ 0
  left : g.left ≡ 0
  direction : g.direction ≡ 0
  mark : g.mark ≡ 0

pub idle_in : (g : Generator) (now : ℕ) → Ranges.generator_ok g now ≡ true → is_running g ≡ false → g ≡ idle_generator
unfolding Ranges.generator_ok
idle_in g now h r =
    let f = facts (Ranges.idle_tests g) (rw r at h) in
    let none = eqb-true g.left 0 (not-false (eqb g.left 0) r) in
    let z : Zeros g = omega (arith, eqb-true) in
    λ i. record {
      pending = record { seconds = z.seconds i; nanoseconds = z.nanoseconds i; remainder = z.remainder i };
      whole = z.whole i;
      numerator = z.numerator i;
      denominator = z.denominator i;
      left = z.left i;
      direction = z.direction i;
      mark = z.mark i;
    }

-- and in range at every time
pub idle_ok : (g : Generator) (now later : ℕ) → is_running g ≡ false → Ranges.generator_ok g now ≡ true
    → Ranges.generator_ok g later ≡ true
unfolding Ranges.generator_ok
idle_ok g now later r h = rw r (rw r at h)

pub words_in : (w : Words) → Ranges.words_ok w ≡ true → WordsRange w
unfolding Ranges.words_ok
words_in w h = let f = facts (Ranges.word_tests w) h in omega (arith, ltb-true)

pub words_ok : (w : Words) → WordsRange w → Ranges.words_ok w ≡ true
unfolding Ranges.words_ok
words_ok w h = all_of (Ranges.word_tests w) (omega (arith, lt-ltb))

-- the whole record, by its parts
pub record Valid (e : Engine) : Type 0 where
  pub clock : Ranges.clock_ok e.clock ≡ true
  pub steering : Ranges.steering_ok e.steering ≡ true
  pub fifo1 : Ranges.fifo_ok e.fifo1 ≡ true
  pub fifo2 : Ranges.fifo_ok e.fifo2 ≡ true
  pub fifo3 : Ranges.fifo_ok e.fifo3 ≡ true
  pub generator1 : Ranges.generator_ok e.generator1 (shown e.clock) ≡ true
  pub generator2 : Ranges.generator_ok e.generator2 (shown e.clock) ≡ true
  pub interrupts : Ranges.interrupts_ok e.interrupts ≡ true
  pub words : Ranges.words_ok e.words ≡ true

pub valid_parts : (e : Engine) → Ranges.valid e ≡ true → Valid e
unfolding Ranges.valid
valid_parts e h = let f = facts (Ranges.engine_tests e) h in search

pub parts_valid : (e : Engine) → Valid e → Ranges.valid e ≡ true
unfolding Ranges.valid
parts_valid e v = all_of (Ranges.engine_tests e) (search)
