-- The instant after the pending one. Divided by D, the sum of the totals is the whole nanoseconds and the carry of
-- the two remainders, so adding place by place is adding totals.
use Prim.Native.Nat.{◌+◌, ◌*◌, ◌/◌, ◌%◌, ◌<◌}
use mathlib.Core.Path.{◌≡◌}
use native.Mathlib.Omega.{arith}
use native.Mathlib.Nat.{mul-add-div_right, mul-add-mod_self_right, div-lt_iff_lt-mul}
use Rattle.model.specs.declared.Generator.{Generator}
use Rattle.model.specs.declared.Instant.{Instant}
use Rattle.model.specs.Units.{ns_per_second}
use Rattle.model.specs.Generator.{pending_total, interval_total, next_instant}
use Rattle.generator.specs.Advance.{Running}

-- two remainders carry at most one nanosecond
pub carry_low : {g : Generator} → Running g → (g.pending.remainder + g.numerator) / g.denominator < 2
carry_low {g} h = (div-lt_iff_lt-mul {k = g.denominator} (omega arith)).1 (omega arith)

-- the sum, place by place
abbrev carried : Generator → Instant
carried g =
    let part = g.pending.remainder + g.numerator in
    let nanoseconds = g.pending.nanoseconds + g.whole + part / g.denominator in
    record {
      seconds = g.pending.seconds + nanoseconds / ns_per_second;
      nanoseconds = nanoseconds % ns_per_second;
      remainder = part % g.denominator;
    }

pub carried_next : {g : Generator} → Running g → carried g ≡ next_instant g
unfolding next_instant
carried_next {g} h =
    let d = g.denominator in
    let part = g.pending.remainder + g.numerator in
    let n = g.pending.nanoseconds + g.whole in
    let x = g.pending.seconds * ns_per_second + n in
    let carry = part / d in
    let total : pending_total g + interval_total g ≡ x * d + part = omega arith in
    let whole = mul-add-div_right {m = d} (omega arith) x part in
    let rest = mul-add-mod_self_right x d part in
    let s : g.pending.seconds + (n + carry) / ns_per_second ≡ (x + carry) / ns_per_second = omega arith in
    let r : (n + carry) % ns_per_second ≡ (x + carry) % ns_per_second = omega arith in
    simp (total, whole, rest, s, r)
