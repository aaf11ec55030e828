-- Laws of an event generator. The interval is at least 256 ns and a step at most that, so the instant after a placed
-- one is not below the time after the tick: a tick has at most one edge of a generator, and what is pending is never
-- behind.
use Prim.Native.Nat.{ℕ, ◌+◌, ◌*◌, ◌/◌, ◌%◌, ◌<◌, ◌≤◌, ◌^◌}
use mathlib.Core.Path.{◌≡◌, refl}
use mathlib.Core.Bool.{Bool, true, false, ◌&&◌, ◌||◌, cond}
use native.Mathlib.Omega.{arith}
use native.Mathlib.Nat.{mul-le-mul_right, mod-lt, div-add-mod'}
use lib.Dec.{leb}
use borrow.Author.Tests.{ltb-false, leb-false, eqb-false, le-ltb}
use Rattle.model.specs.declared.Generator.{Generator}
use Rattle.model.specs.declared.Instant.{Instant}
use Rattle.model.specs.Units.{ns_per_second}
use Rattle.model.specs.Generator
use Rattle.model.specs.Ranges.{generator_ok}
use Rattle.model.proofs.Laws.Testing.{split, both, neither}
use Rattle.model.specs.Bounds.{RunningRange}
use Rattle.model.proofs.Laws.InRange.{running_in, running_ok, idle_ok}

-- an instant read back as a total
abbrev pub total : Instant → ℕ → ℕ
total i d = (i.seconds * ns_per_second + i.nanoseconds) * d + i.remainder

pub total_at : (t d : ℕ) → total (Generator.instant_at t d) d ≡ t
total_at t d =
    let whole : t / d / ns_per_second * ns_per_second + t / d % ns_per_second ≡ t / d = omega arith in
    rw whole (div-add-mod' t d)

-- the interval is at least 256 ns
pub interval_wide : (g : Generator) (now : ℕ) → RunningRange g now → 256 * g.denominator ≤ Generator.interval_total g
interval_wide g now h =
    let m : 256 * g.denominator ≤ g.whole * g.denominator = mul-le-mul_right g.denominator h.wide in
    omega arith

pub next_total : (g : Generator)
    → total (Generator.next_instant g) g.denominator ≡ Generator.pending_total g + Generator.interval_total g
unfolding Generator.next_instant
next_total g = total_at _ g.denominator

-- the instant after the pending one is not below A + S
pub next_ahead : (g : Generator) (a s : ℕ) → RunningRange g a → s ≤ 65536
    → (a + s) * g.denominator ≤ (Generator.pending_total g + Generator.interval_total g) * 256
next_ahead g a s h small =
    let wide = interval_wide g a h in
    let step : s * g.denominator ≤ 65536 * g.denominator = mul-le-mul_right g.denominator small in
    omega (arith, h.ahead)

pub idle_generator_ok : (now : ℕ) → generator_ok Generator.idle_generator now ≡ true
unfolding generator_ok
idle_generator_ok now = refl

next_low : (g : Generator) → 0 < g.denominator
    → ((Generator.next_instant g).nanoseconds < ns_per_second) × ((Generator.next_instant g).remainder < g.denominator)
unfolding Generator.next_instant
next_low g d = (omega arith, mod-lt _ d)

-- it is in range after the tick, where edges are left and the next instant is not past the last second
pub onward_in : (g : Generator) (a s : ℕ) → RunningRange g a → s ≤ 65536
    → Generator.is_last g ≡ false → leb (2 ^ 48) (Generator.next_instant g).seconds ≡ false
    → RunningRange (Generator.onward g) (a + s)
onward_in g a s h small more near =
    let d : 0 < g.denominator = omega (arith, h.remainder) in
    let i = next_low g d in
    record {
      seconds = leb-false (2 ^ 48) _ near;
      nanoseconds = i.0;
      remainder = i.1;
      wide = h.wide;
      whole = h.whole;
      numerator = h.numerator;
      denominator = h.denominator;
      some = omega (arith, eqb-false, h.some);
      left = omega (arith, h.left);
      direction = omega (arith, h.direction);
      mark = h.mark;
      ahead = rw (next_total g) (next_ahead g a s h small);
    }

-- a running generator that is not due is not behind after the tick either
waiting : (g : Generator) (a s : ℕ) → RunningRange g a → Generator.is_before g (a + s) ≡ false → RunningRange g (a + s)
unfolding Generator.is_before
waiting g a s h b = omega (arith, ltb-false)

abbrev GoodAt : ℕ → Generator → Type 0
GoodAt now g = generator_ok g now ≡ true

pub following_ok : (g : Generator) (a s : ℕ) → RunningRange g a → s ≤ 65536
    → generator_ok (Generator.following g) (a + s) ≡ true
unfolding Generator.following
following_ok g a s h small =
    split (GoodAt (a + s)) (Generator.is_last g || leb (2 ^ 48) (Generator.next_instant g).seconds)
    (λ e. idle_generator_ok (a + s))
    (λ e. let n = neither _ _ e in running_ok (Generator.onward g) (a + s) (onward_in g a s h small n.0 n.1))

-- a generator is in range after every tick
pub generated_ok : (g : Generator) (a s : ℕ) → s ≤ 65536 → generator_ok g a ≡ true
    → generator_ok (Generator.generated g a s) (a + s) ≡ true
unfolding Generator.generated Generator.is_due
generated_ok g a s small ok = by (Generator.is_running g) refl (Generator.is_before g (a + s)) refl
  where
    by : (r : Bool) → Generator.is_running g ≡ r → (b : Bool) → Generator.is_before g (a + s) ≡ b
        → generator_ok (cond (r && b) (Generator.following g) g) (a + s) ≡ true
    by true r true b = following_ok g a s (running_in g a ok r) small
    by true r false b = running_ok g (a + s) (waiting g a s (running_in g a ok r) b)
    by false r b e = idle_ok g a (a + s) r ok

-- a generator has at most one edge in a tick: after one it is not due in the same tick again
pub at_most_one_edge : (g : Generator) (a s : ℕ) → s ≤ 65536 → generator_ok g a ≡ true → Generator.is_due g a s ≡ true
    → Generator.is_due (Generator.following g) a s ≡ false
unfolding Generator.is_due Generator.is_before
at_most_one_edge g a s small ok due =
    let r = running_in g a ok (both _ (Generator.is_before g (a + s)) due).0 in
    by (Generator.is_running (Generator.following g)) refl (following_ok g a s r small)
  where
    by : (b : Bool) → Generator.is_running (Generator.following g) ≡ b
        → generator_ok (Generator.following g) (a + s) ≡ true
        → (b && Generator.is_before (Generator.following g) (a + s)) ≡ false
    by true y h = le-ltb _ _ (running_in (Generator.following g) (a + s) h y).ahead
    by false y h = refl
