-- The order of a pending instant and a time shown. The places after the first that differs add up to less than one
-- of it, so that place alone decides.
use Prim.Native.Nat.{ℕ, ◌+◌, ◌*◌, ◌<◌, ◌≤◌, ◌^◌}
use mathlib.Core.Path.{◌≡◌, ap, sym, ◌∙◌}
use mathlib.Core.Bool.{Bool, cond}
use native.Mathlib.Omega.{arith}
use native.Mathlib.Nat.{mul-le-mul_right}
use native.Mathlib.Decide.{ℕ_discrete, dec_lt}
use lib.Dec.{ltb, eqb}
use borrow.Author.Tests.{eq-eqb, ne_eqb, lt-ltb, le-ltb}
use Rattle.model.specs.declared.Clock.{Clock}
use Rattle.model.specs.declared.Generator.{Generator}
use Rattle.model.specs.Units.{ns_per_second}
use Rattle.model.specs.Clock.{shown}
use Rattle.model.specs.Generator.{is_before, pending_total}
use Rattle.generator.specs.Advance.{Comparable}

-- two tests are the same where each side of one gives the same side of the other
pub same_test : (a b m n : ℕ) → (a < b → m < n) → (b ≤ a → n ≤ m) → ltb a b ≡ ltb m n
same_test a b m n below above = go (dec_lt a b)
  where
    go : Dec (a < b) → ltb a b ≡ ltb m n
    go (yes l) = lt-ltb a b l ∙ sym (lt-ltb m n (below l))
    go (no l) = let h : b ≤ a = omega arith in le-ltb a b h ∙ sym (le-ltb m n (above h))

-- x and y decide where they differ, else the rest does
abbrev first_before : ℕ → ℕ → Bool → Bool
first_before x y rest = cond (eqb x y) rest (ltb x y)

-- x of m and u below m, against y and v
first_decides : (m x y u v : ℕ) → u < m → v < m → first_before x y (ltb u v) ≡ ltb (x * m + u) (y * m + v)
first_decides m x y u v u_low v_low =
    elim (ℕ_discrete x y) [
      | yes e ↦
          let level : x * m ≡ y * m = ap (λ (z : ℕ). z * m) e in
          rw (eq-eqb x y e) (same_test u v (x * m + u) (y * m + v) (λ l. omega arith) (λ l. omega arith))
      | no n ↦
          rw (ne_eqb x y n)
          (same_test x y (x * m + u) (y * m + v)
          (λ l. omega (arith, one_more x y l))
          (λ l. omega (arith, one_more y x (omega arith))))
    ]
  where
    one_more : (a b : ℕ) → a < b → (a + 1) * m ≤ b * m
    one_more a b h = mul-le-mul_right m (omega arith)

-- seconds, then nanoseconds, then the parts of a nanosecond
pub placewise : {g : Generator} {k : Clock} → Comparable g k
    → first_before g.pending.seconds k.seconds
    (first_before g.pending.nanoseconds k.nanoseconds
    (ltb (g.pending.remainder * 256) (k.fraction * g.denominator)))
    ≡ is_before g (shown k)
unfolding is_before
placewise {g} {k} h =
    let d = g.denominator in
    let e = g.pending in
    let m = 256 * g.denominator in
    let fraction : (k.fraction + 1) * d ≤ 256 * d = mul-le-mul_right d (omega arith) in
    let pending : (e.nanoseconds + 1) * d ≤ ns_per_second * d = mul-le-mul_right d (omega arith) in
    let time : (k.nanoseconds + 1) * d ≤ ns_per_second * d = mul-le-mul_right d (omega arith) in
    let u = e.remainder * 256 in
    let v = k.fraction * g.denominator in
    let below = e.nanoseconds * m + u in
    let above = k.nanoseconds * m + v in
    let pending_places : pending_total g * 256 ≡ e.seconds * (ns_per_second * m) + below = omega arith in
    let time_places : shown k * d ≡ k.seconds * (ns_per_second * m) + above = omega arith in
    let first = first_decides (ns_per_second * m) e.seconds k.seconds below above (omega arith) (omega arith) in
    let second = first_decides m e.nanoseconds k.nanoseconds u v (omega arith) (omega arith) in
    rw (second, first, pending_places, time_places)

-- a byte's part of a 32-bit denominator
pub part_low : {g : Generator} {k : Clock} → Comparable g k → k.fraction * g.denominator < 2 ^ 40
part_low {g} {k} h =
    let m : k.fraction * g.denominator ≤ 255 * g.denominator = mul-le-mul_right g.denominator (omega arith) in
    omega arith
