-- When the cycles have brought a need. Each phase of equal amounts is one division by that amount, and a phase may
-- stand before any course that has the law; so each phase is a use of `phase`.
use Prim.Native.Nat.{ℕ, ◌+◌, ◌*◌, ◌-◌, ◌≤◌, ◌<◌, min}
use mathlib.Core.Path.{◌≡◌}
use mathlib.Core.Logic.{◌↔◌}
use mathlib.Core.Bool.{true}
use native.Mathlib.Nat.{div-lt_iff_lt-mul, mul-le-mul_right}
use native.Mathlib.Decide.{dec_le}
use native.Mathlib.Omega.{arith}
use lib.Dec.{leb}
use borrow.Author.Tests.{leb-true, leb-false}
use Rattle.model.specs.declared.Steering.{Steering}
use Rattle.model.specs.Ranges.{steering_ok}
use Rattle.model.specs.Elapse.{amount_of}
use Rattle.model.proofs.Laws.Testing.{split}
use Rattle.model.proofs.Laws.InRange.{steering_in}
use Rattle.reach.specs.Reach.{cycles_of, phase_to, cycles_to}

-- what k cycles bring is at least a need exactly when the need's cycle has come
abbrev pub Reaches : (ℕ → ℕ) → (ℕ → ℕ) → Type 0
Reaches brings cycle = (need k : ℕ) → 0 < need → (need ≤ brings k) ↔ (cycle need ≤ k)

-- cycles of one amount
pub steady : (amount : ℕ) → 0 < amount → Reaches (λ k. k * amount) (cycles_of amount)
steady amount pos need k some =
    let law = div-lt_iff_lt-mul {k = amount} {x = need - 1} {y = k} pos in
    (λ h. omega (arith, law.1 (omega arith)), λ h. omega (arith, law.0 (omega arith)))

-- an amount of which some cycles bring a need is not 0
pub some_amount : (c amount need : ℕ) → 0 < need → need ≤ c * amount → 0 < amount
some_amount c amount need some h =
    elim (dec_le 1 amount) [
      | yes l ↦ l
      | no l ↦ let z : amount ≡ 0 = omega arith in let n : need ≤ c * 0 = rw z at h in absurd (omega arith)
    ]

-- c cycles of one amount, and then another course
module _ (c amount : ℕ) (rest : ℕ → ℕ) (zero : rest 0 ≡ 0) (cycle : ℕ → ℕ) (law : Reaches rest cycle) where
  early : (k : ℕ) → k ≤ c → min k c * amount + rest (k - c) ≡ k * amount
  early k h =
      let m : min k c ≡ k = omega arith in
      let d : k - c ≡ 0 = omega arith in
      rw (m, d, zero) (omega arith)

  late : (k : ℕ) → c ≤ k → min k c * amount + rest (k - c) ≡ c * amount + rest (k - c)
  late k h = let m : min k c ≡ c = omega arith in rw m

  -- the need is met within the c cycles
  within : (need k : ℕ) → 0 < need → need ≤ c * amount → Dec (k ≤ c)
      → (need ≤ min k c * amount + rest (k - c)) ↔ (cycles_of amount need ≤ k)
  within need k some h (yes l) = rw (early k l) (steady amount (some_amount c amount need some h) need k some)
  within need k some h (no l) =
      let met = (steady amount (some_amount c amount need some h) need c some).0 h in
      rw (late k (omega arith)) (λ x. omega arith, λ x. omega arith)

  -- and here it is not
  beyond : (need k : ℕ) → 0 < need → c * amount < need → Dec (k ≤ c)
      → (need ≤ min k c * amount + rest (k - c)) ↔ (c + cycle (need - c * amount) ≤ k)
  beyond need k some h (yes l) =
      let m = mul-le-mul_right amount l in
      let n = (law (need - c * amount) 0 (omega arith)).1 in
      rw (early k l) (λ x. absurd (omega arith), λ x. absurd (omega (arith, zero, n (omega arith))))
  beyond need k some h (no l) =
      let n = law (need - c * amount) (k - c) (omega arith) in
      rw (late k (omega arith)) (λ x. omega (arith, n.0 (omega arith)), λ x. omega (arith, n.1 (omega arith)))

  pub phase : Reaches (λ k. min k c * amount + rest (k - c)) (phase_to c amount cycle)
  phase need k some =
      split (λ (r : ℕ). (need ≤ min k c * amount + rest (k - c)) ↔ (r ≤ k)) (leb need (c * amount))
      (λ e. within need k some (leb-true _ _ e) (dec_le k c))
      (λ e. beyond need k some (leb-false _ _ e) (dec_le k c))

-- the running adjustment, the one that waits, and then PERIOD
after_first : (s : Steering) → steering_ok s ≡ true
    → Reaches (λ k. min k s.waiting.cycles * s.waiting.amount + (k - s.waiting.cycles) * s.period)
    (phase_to s.waiting.cycles s.waiting.amount (cycles_of s.period))
after_first s h =
    let pos : 0 < s.period = omega (arith, (steering_in s h).period.low) in
    phase s.waiting.cycles s.waiting.amount (λ k. k * s.period) (omega arith) (cycles_of s.period)
    (steady s.period pos)

pub reaches : (s : Steering) → steering_ok s ≡ true → Reaches (amount_of s) (cycles_to s)
unfolding amount_of cycles_to
reaches s h =
    let none : min 0 s.waiting.cycles ≡ 0 = omega arith in
    let rest : 0 - s.waiting.cycles ≡ 0 = omega arith in
    phase s.adjustment.cycles s.adjustment.amount
    (λ k. min k s.waiting.cycles * s.waiting.amount + (k - s.waiting.cycles) * s.period)
    (rw (none, rest) (omega arith))
    (phase_to s.waiting.cycles s.waiting.amount (cycles_of s.period))
    (after_first s h)

-- the cycle of a need is the first or a later one
pub cycles_some : (s : Steering) (need : ℕ) → 1 ≤ cycles_to s need
unfolding cycles_to
cycles_some s need =
    phase_some s.adjustment.cycles s.adjustment.amount _
    (phase_some s.waiting.cycles s.waiting.amount (cycles_of s.period) (λ n. omega arith))
    need
  where
    phase_some : (c amount : ℕ) (cycle : ℕ → ℕ) → ((n : ℕ) → 1 ≤ cycle n) → (n : ℕ) → 1 ≤ phase_to c amount cycle n
    phase_some c amount cycle some n =
        split (λ (r : ℕ). 1 ≤ r) (leb n (c * amount)) (λ e. omega arith)
        (λ e. omega (arith, some (n - c * amount)))
