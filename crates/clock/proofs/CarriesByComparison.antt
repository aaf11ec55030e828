-- A clock that gains d, its carry found by comparison: what the comparison carries is what splitting the sum carries,
-- so the clock is that of the total.
use mathlib.Core.Path.{◌≡◌}
use mathlib.Core.Bool.{cond}
use Prim.Native.Nat.{ℕ, ◌+◌, ◌*◌, ◌-◌, ◌/◌, ◌%◌, ◌≤◌}
use lib.Dec.{leb}
use Rattle.model.specs.declared.Clock.{Clock}
use Rattle.model.specs.Units.{ns_per_second}
use Rattle.model.specs.Clock.{shown, clock_at}
use Rattle.model.specs.Bounds.{ClockRange}
use Rattle.clock.proofs.Carries

module _ (k : Clock) (d c : ℕ) (i : ClockRange k) (low : d ≤ 65536)
    (is : c ≡ cond (leb ns_per_second (k.nanoseconds + (k.fraction + d) / 256)) 1 0) where
  abbrev sum : ℕ
  sum = k.nanoseconds + (k.fraction + d) / 256

  pub carried : (r : ℕ)
      → ◌≡◌ {A = Clock}
      (record {
        seconds = k.seconds + c;
        nanoseconds = sum - c * ns_per_second;
        fraction = (k.fraction + d) % 256;
        remainder = r;
      })
      (clock_at (shown k + d) r)
  carried r = let one = Carries.second_carries k d c i low is in Carries.carried k d c i one.full one.most r
