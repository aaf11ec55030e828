-- The cases of an edge in a stretch, as they are told apart: an idle generator and a far instant have none, and a near
-- one has it where the stretch brings what is missing. And those of the end of time.
use Prim.Native.Nat.{ℕ, ◌+◌, ◌*◌, ◌-◌, ◌≤◌, ◌<◌, ◌^◌}
use mathlib.Core.Path.{◌≡◌, ap}
use mathlib.Core.Bool.{true, false, ◌&&◌, not, and-false}
use native.Mathlib.Omega.{arith}
use lib.Dec.{eqb, leb}
use Rattle.std.specs.Prelude.{Some, None}
use borrow.Author.Tests.{eq-eqb, ne_eqb, le-leb, lt-leb}
use Rattle.model.specs.declared.Clock.{Clock}
use Rattle.model.specs.declared.Steering.{Steering}
use Rattle.model.specs.declared.Generator.{Generator}
use Rattle.model.specs.Clock.{shown}
use Rattle.model.specs.Generator.{is_running}
use Rattle.model.specs.Ranges.{generator_ok}
use Rattle.model.specs.Bounds.{RunningRange}
use Rattle.model.proofs.Laws.InRange.{running_in}
use Rattle.elapse.specs.Seconds.{second, in_second}
use Rattle.reach.specs.Reach.{cycles_to, edge_time, edge_need, edge_tick, ticks_in_time}
use Rattle.reach.specs.Asked.{Near, InTime}
use Rattle.reach.proofs.Edges.{edge_later}
use Rattle.reach.proofs.Sizes.{far}

module _ (g : Generator) (k : Clock) (here : ℕ) (s : Steering) (amount : ℕ) where
  pub idle_none : g.left ≡ 0 → edge_tick g k s amount ≡ None
  unfolding edge_tick
  idle_none h = rw (eq-eqb g.left 0 h)

  short : amount < edge_need g k → edge_tick g k s amount ≡ None
  unfolding edge_tick
  short h = rw (lt-leb (edge_need g k) amount h, and-false)

  module _ (w : InTime k here s amount) (ok : generator_ok g (shown k) ≡ true) (some : g.left ≡ 0 → ⊥) where
    runs : is_running g ≡ true
    runs = ap not (ne_eqb g.left 0 some)

    running : RunningRange g (shown k)
    running = running_in g (shown k) ok runs

    pub far_none : k.seconds + 1 < g.pending.seconds → edge_tick g k s amount ≡ None
    far_none h =
        let c = w.clock in
        short (far g k running amount (omega (arith, w.short)) h (omega arith))

    pub near : g.pending.seconds ≤ k.seconds + 1 → Near g k
    near h = record { clock = w.clock; running = running; near = h }

    -- the edge as counted from the start of the second
    module _ (edge : ℕ) (is : edge + k.seconds * second ≡ edge_time g * 2 ^ 24) where
      pub edge_ahead : here < edge
      edge_ahead = omega (arith, w.in_here, edge_later g (shown k) running, w.clock.remainder)

      need_is : edge - here ≡ edge_need g k
      need_is = omega (arith, w.in_here, edge_ahead)

      pub short_none : here + amount < edge → edge_tick g k s amount ≡ None
      short_none h = short (omega (arith, need_is))

      pub met : edge ≤ here + amount → edge_tick g k s amount ≡ Some (cycles_to s (edge - here))
      unfolding edge_tick
      met h = rw (need_is, runs, le-leb (edge_need g k) amount (omega (arith, need_is)))

module _ (k : Clock) (s : Steering) (n amount : ℕ) where
  pub before_last : (k.seconds ≡ 2 ^ 48 - 1 → ⊥) → ticks_in_time k s n amount ≡ n
  unfolding ticks_in_time
  before_last h = rw (ne_eqb k.seconds (2 ^ 48 - 1) h)

  pub within_last : in_second k + amount < second → ticks_in_time k s n amount ≡ n
  unfolding ticks_in_time
  within_last h = rw (lt-leb second (in_second k + amount) h, and-false)

  pub past_last : k.seconds ≡ 2 ^ 48 - 1 → second ≤ in_second k + amount
      → ticks_in_time k s n amount ≡ cycles_to s (second - in_second k) - 1
  unfolding ticks_in_time
  past_last e h = rw (eq-eqb k.seconds (2 ^ 48 - 1) e, le-leb second (in_second k + amount) h)

  pub all_in_time : (eqb k.seconds (2 ^ 48 - 1) && leb second (in_second k + amount)) ≡ false
      → ticks_in_time k s n amount ≡ n
  unfolding ticks_in_time
  all_in_time h = rw h

  pub some_in_time : (eqb k.seconds (2 ^ 48 - 1) && leb second (in_second k + amount)) ≡ true
      → ticks_in_time k s n amount ≡ cycles_to s (second - in_second k) - 1
  unfolding ticks_in_time
  some_in_time h = rw h
