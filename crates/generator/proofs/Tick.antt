-- A generator with edges left, in a tick. It is in range at the time shown, and the clock after the tick shows A +
-- S, so what the parts of the tick ask follows from what the tick asks.
use Prim.Native.Nat.{ℕ}
use mathlib.Core.Path.{◌≡◌, ap}
use mathlib.Core.Bool.{Bool, true, not}
use native.Mathlib.Omega.{arith}
use borrow.Author.Tests.{ne_eqb}
use Rattle.model.specs.declared.Clock.{Clock}
use Rattle.model.specs.declared.Generator.{Generator}
use Rattle.model.specs.Clock.{shown}
use Rattle.model.specs.Generator.{is_running, is_before, is_due}
use Rattle.model.specs.Bounds.{RunningRange}
use Rattle.model.proofs.Laws.InRange.{clock_in, running_in}
use Rattle.generator.specs.Advance.{Comparable, Running, Due, Ticking}

module _ {g : Generator} {k next : Clock} {step : ℕ} (t : Ticking g k next step) (some : g.left ≡ 0 → ⊥) where
  runs : is_running g ≡ true
  runs = ap not (ne_eqb g.left 0 some)

  in_range : RunningRange g (shown k)
  in_range = running_in g (shown k) t.generator runs

  pub comparable : Comparable g next
  comparable = omega (arith, in_range, clock_in next t.later)

  pub running : Running g
  running = omega (arith, in_range)

  pub due : is_before g (shown next) ≡ true → Due g k step
  due b = record {
    clock = t.clock;
    generator = t.generator;
    running = runs;
    before = rw t.apart at b;
    low = t.low;
  }

  pub decides : {b : Bool} → is_before g (shown next) ≡ b → is_due g (shown k) step ≡ b
  unfolding is_due
  decides e = rw (runs, ← t.apart) e
