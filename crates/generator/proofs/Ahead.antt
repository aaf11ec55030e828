-- How far the pending instant of a tick is ahead of the time shown. It is not behind it and less than a step ahead,
-- a step being at most 256 ns: divided by D, these bounds keep every place from going below 0 and every product
-- small.
use Prim.Native.Nat.{ℕ, ◌+◌, ◌*◌, ◌-◌, ◌<◌, ◌≤◌, ◌^◌}
use mathlib.Core.Path.{◌≡◌, ap, sym, ◌∙◌}
use mathlib.Core.Bool.{cond}
use native.Mathlib.Decide.{ℕ_discrete}
use native.Mathlib.Omega.{arith}
use native.Mathlib.Nat.{mul-le-mul_right, lt_of_mul-lt-mul_right}
use lib.Dec.{eqb}
use borrow.Author.Tests.{ltb-true, eq-eqb, ne_eqb}
use Rattle.model.specs.declared.Clock.{Clock}
use Rattle.model.specs.declared.Generator.{Generator}
use Rattle.model.specs.Units.{ns_per_second}
use Rattle.model.specs.Clock.{shown}
use Rattle.model.specs.Generator.{is_before, pending_total, starts_by, from_the_top, eighth_of}
use Rattle.model.proofs.Laws.InRange.{clock_in, running_in}
use Rattle.model.proofs.Laws.Eighths.{first_same, starts_ahead}
use Rattle.generator.specs.Advance.{Due, topmost}

-- from the second that the clock shows to the pending nanosecond, the pending second being so many of them later
abbrev since_second : Generator → ℕ → ℕ
since_second g later = later + g.pending.nanoseconds

-- from the nanosecond that the clock shows to the pending instant, in 1/(256 D) ns
abbrev since_nanosecond : Generator → Clock → ℕ → ℕ
since_nanosecond g k later =
    (since_second g later - k.nanoseconds) * 256 * g.denominator + g.pending.remainder * 256

-- from the time shown to the pending instant, E - A, in 1/(256 D) ns
abbrev since_shown : Generator → Clock → ℕ → ℕ
since_shown g k later = since_nanosecond g k later - k.fraction * g.denominator

pub record Ahead (g : Generator) (k : Clock) (step later : ℕ) : Type 0 where
  pub nanoseconds : k.nanoseconds ≤ since_second g later
  pub near : since_second g later < 1000000256
  pub fraction : k.fraction * g.denominator ≤ since_nanosecond g k later
  pub small : since_nanosecond g k later < 2 ^ 49
  pub exact : since_shown g k later ≡ pending_total g * 256 - shown k * g.denominator
  pub within : since_shown g k later < step * g.denominator

-- second a is second b or the next: as many nanoseconds later as the code picks
picked : (a b later : ℕ) → later ≡ cond (eqb a b) 0 ns_per_second → b ≤ a → a ≤ b + 1 → later ≡ (a - b) * ns_per_second
picked a b later is low high =
    elim (ℕ_discrete a b) [
      | yes e ↦ is ∙ rw (eq-eqb a b e) (omega arith)
      | no e ↦ is ∙ rw (ne_eqb a b e) (omega arith)
    ]

pub length_low : {g : Generator} {k : Clock} {step : ℕ} → Due g k step → step * g.denominator < 2 ^ 48
length_low {g} {k} {step} h =
    let r = running_in g (shown k) h.generator h.running in
    let short : step * g.denominator ≤ 65536 * g.denominator = mul-le-mul_right g.denominator h.low in
    omega arith

pub ahead : {g : Generator} {k : Clock} {step later : ℕ} → Due g k step
    → later ≡ cond (eqb g.pending.seconds k.seconds) 0 ns_per_second → Ahead g k step later
unfolding is_before
ahead {g} {k} {step} {later} h is =
    let i = clock_in k h.clock in
    let r = running_in g (shown k) h.generator h.running in
    let d = g.denominator in
    let e = g.pending.seconds * ns_per_second + g.pending.nanoseconds in
    let a = k.seconds * ns_per_second + k.nanoseconds in
    let before = ltb-true (pending_total g * 256) ((shown k + step) * d) h.before in
    let part : (k.fraction + 1) * d ≤ 256 * d = mul-le-mul_right d (omega arith) in
    let short : step * d ≤ 65536 * d = mul-le-mul_right d h.low in
    let above : a < e + 1 = lt_of_mul-lt-mul_right d (omega arith) in
    let near : e < a + 257 = lt_of_mul-lt-mul_right d (omega arith) in
    let seconds = picked g.pending.seconds k.seconds later is (omega arith) (omega arith) in
    let apart : (a + (since_second g later - k.nanoseconds)) * d ≡ e * d = ap (λ (x : ℕ). x * d) (omega arith) in
    omega arith

-- the eighth by how far the instant is ahead
pub eighth_ahead : {g : Generator} {k : Clock} {step : ℕ} → Due g k step
    → topmost (8 * (pending_total g * 256 - shown k * g.denominator)) (step * g.denominator)
    ≡ eighth_of g (shown k) step
unfolding eighth_of
eighth_ahead {g} {k} {step} h =
    let r = running_in g (shown k) h.generator h.running in
    sym
    (first_same (starts_by g (shown k) step) _ (λ p. starts_ahead g (shown k) step p r.ahead) from_the_top)
