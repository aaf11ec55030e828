-- That quotients and distances fit into 64 bits: a need that cycles bring is met within them, and a pending instant of
-- this second or the next is less than two seconds away.
use Prim.Native.Nat.{ℕ, ◌+◌, ◌*◌, ◌-◌, ◌/◌, ◌≤◌, ◌<◌, ◌^◌}
use mathlib.Core.Path.{◌≡◌, refl}
use mathlib.Core.Bool.{Bool, true, false, cond}
use native.Mathlib.Nat.{mul-add-div_right, div-lt_iff_lt-mul}
use native.Mathlib.Omega.{arith}
use lib.Dec.{leb}
use borrow.Author.Tests.{leb-true, leb-false}
use Rattle.model.specs.declared.Clock.{Clock}
use Rattle.model.specs.declared.Steering.{Steering}
use Rattle.model.specs.declared.Generator.{Generator}
use Rattle.model.specs.Units.{ns_per_second}
use Rattle.model.specs.Clock.{shown}
use Rattle.model.specs.Generator.{pending_total}
use Rattle.model.specs.Ranges.{steering_ok}
use Rattle.model.specs.Bounds.{RunningRange}
use Rattle.model.proofs.Laws.InRange.{SteeringRange, steering_in}
use Rattle.elapse.specs.Seconds.{second, in_second}
use Rattle.elapse.proofs.Numbers.{adjustment_low}
use Rattle.reach.specs.Reach.{cycles_of, phase_to, edge_time, edge_need}
use Rattle.reach.proofs.Reached.{some_amount}
use Rattle.reach.proofs.Edges.{edge_later}

-- a need that c cycles bring is met within them, and any other quotient by an amount is small
cycles_within : (c amount need : ℕ) → 0 < need → need ≤ c * amount → (need - 1) / amount < c
cycles_within c amount need some h =
    (div-lt_iff_lt-mul {k = amount} {x = need - 1} {y = c} (some_amount c amount need some h)).1 (omega arith)

cycles_few : (x amount : ℕ) → x < 2 ^ 64 → 2 ^ 32 ≤ amount → x / amount < 2 ^ 32
cycles_few x amount low wide =
    let some : 0 < amount = omega arith in
    (div-lt_iff_lt-mul {k = amount} {x = x} {y = 2 ^ 32} some).1 (omega arith)

-- what the running adjustment leaves of a need: the phase that meets it is picked, by what comes before it and by its
-- amount
pub record Picked (s : Steering) (rest less before amount : ℕ) : Type 0 where
  pub taken : less < rest
  pub divisor : 0 < amount
  pub few : s.adjustment.cycles + before + (rest - less - 1) / amount < 2 ^ 33
  pub is : s.adjustment.cycles + before + (rest - less - 1) / amount + 1
      ≡ s.adjustment.cycles + phase_to s.waiting.cycles s.waiting.amount (cycles_of s.period) rest

-- it is that of the adjustment that waits where its cycles bring the rest, and else PERIOD's
abbrev pub PickedFor : Steering → ℕ → Type 0
PickedFor s rest =
    let second = s.waiting.cycles * s.waiting.amount in
    let waits = leb rest second in
    Picked s rest (cond waits 0 second) (cond waits 0 s.waiting.cycles)
    (cond waits s.waiting.amount s.period)

-- what the running adjustment leaves of a need is met by few cycles, in the phase of the adjustment that waits or after
module _ (s : Steering) (h : steering_ok s ≡ true) where
  v : SteeringRange s
  v = steering_in s h

  pub few_waiting : (need : ℕ) → s.adjustment.cycles * s.adjustment.amount < need
      → need - s.adjustment.cycles * s.adjustment.amount ≤ s.waiting.cycles * s.waiting.amount
      → s.adjustment.cycles + (need - s.adjustment.cycles * s.adjustment.amount - 1) / s.waiting.amount < 2 ^ 33
  few_waiting need more met =
      let first = (adjustment_low s.adjustment v.running).0 in
      let few = (adjustment_low s.waiting v.waiting).0 in
      let within = cycles_within s.waiting.cycles s.waiting.amount _ (omega arith) met in
      omega arith

  pub few_after : (need : ℕ) → need < 2 ^ 64
      → s.adjustment.cycles + s.waiting.cycles
      + (need - s.adjustment.cycles * s.adjustment.amount - s.waiting.cycles * s.waiting.amount - 1) / s.period
      < 2 ^ 33
  few_after need low =
      let x = need - s.adjustment.cycles * s.adjustment.amount - s.waiting.cycles * s.waiting.amount - 1 in
      let first = (adjustment_low s.adjustment v.running).0 in
      let few = (adjustment_low s.waiting v.waiting).0 in
      let quotient = cycles_few x s.period (omega arith) v.period.low in
      omega arith

  module _ (rest : ℕ) (some : 0 < rest) (low : rest < 2 ^ 64) where
    pub picked : PickedFor s rest
    picked = by (leb rest second) refl
      where
        second : ℕ
        second = s.waiting.cycles * s.waiting.amount

        by : (b : Bool) → leb rest second ≡ b
            → Picked s rest (cond b 0 second) (cond b 0 s.waiting.cycles) (cond b s.waiting.amount s.period)
        by true e =
            let met = leb-true rest second e in
            let within = cycles_within s.waiting.cycles s.waiting.amount rest some met in
            let first = (adjustment_low s.adjustment v.running).0 in
            let few = (adjustment_low s.waiting v.waiting).0 in
            let same : rest - 0 - 1 ≡ rest - 1 = omega arith in
            record {
              taken = some;
              divisor = some_amount s.waiting.cycles s.waiting.amount rest some met;
              few = rw same (omega arith);
              is = rw (same, e) (omega arith);
            }
        by false e =
            let beyond = leb-false rest second e in
            let first = (adjustment_low s.adjustment v.running).0 in
            let few = (adjustment_low s.waiting v.waiting).0 in
            let wide = v.period.low in
            let less : rest - second - 1 < 2 ^ 64 = omega arith in
            let quotient = cycles_few (rest - second - 1) s.period less wide in
            record { taken = beyond; divisor = omega arith; few = omega arith; is = rw e (omega arith) }

-- the first time shown above the pending instant, by its parts
module _ (g : Generator) (k : Clock) (h : RunningRange g (shown k)) where
  some_parts : 0 < g.denominator
  some_parts = omega (arith, h.remainder)

  edge_parts : edge_time g
      ≡ (g.pending.seconds * ns_per_second + g.pending.nanoseconds) * 256
      + g.pending.remainder * 256 / g.denominator + 1
  unfolding edge_time
  edge_parts =
      let s = g.pending.seconds * ns_per_second + g.pending.nanoseconds in
      let d = g.denominator in
      let e : pending_total g * 256 ≡ s * 256 * d + g.pending.remainder * 256 = omega arith in
      rw (e, mul-add-div_right some_parts)

  -- the remainder is less than a nanosecond
  pub part_low : g.pending.remainder * 256 / g.denominator < 256
  part_low = (div-lt_iff_lt-mul some_parts).1 (omega (arith, h.remainder))

  -- the instant is in the second shown or a later one
  pub ahead : k.seconds ≤ g.pending.seconds
  ahead = omega (arith, edge_later g (shown k) h, edge_parts, part_low, h.nanoseconds)

  pub edge_from_second :
      (g.pending.seconds - k.seconds) * second + g.pending.nanoseconds * 2 ^ 32
      + (g.pending.remainder * 256 / g.denominator + 1) * 2 ^ 24
      + k.seconds * second
      ≡ edge_time g * 2 ^ 24
  edge_from_second = omega (arith, edge_parts, ahead)

  -- a second or more away it is out of reach
  pub far : (amount : ℕ) → amount < second → k.seconds + 1 < g.pending.seconds → in_second k < second
      → amount < edge_need g k
  far amount low away here = omega (arith, edge_parts, ahead)
