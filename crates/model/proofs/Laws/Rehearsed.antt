-- The clock and the steering after n ticks by formula, whatever the generators do in them: neither looks at a
-- generator, so each tick takes the formula at n to the formula at n + 1. The time shown only grows, so that n ticks
-- end in time exactly when the last of them does.
use Prim.Native.Nat.{ℕ, zero, suc, ◌+◌, ◌<◌}
use mathlib.Core.Path.{◌≡◌, refl, sym, ap, ◌∙◌}
use mathlib.Core.Bool.{Bool, true, false}
use native.Mathlib.Nat.{add-zero}
use native.Mathlib.Omega.{arith}
use lib.Dec.{ltb}
use borrow.Author.Tests.{ltb-true, lt-ltb}
use Rattle.model.specs.declared.Engine.{Engine}
use Rattle.model.specs.Clock.{exact, end_of_time, clock_at_exact}
use Rattle.model.specs.Tick.{ends_in_time, tick_engine, no_inputs, ticks, in_time_for}
use Rattle.model.specs.Elapse.{amount_of, steering_by}
use Rattle.model.proofs.Laws.Testing.{both, both_true}
use Rattle.model.proofs.Laws.InRange.{Valid, clock_in, steering_in}
use Rattle.model.proofs.Laws.Ticks.{first_of_ticks}
use Rattle.model.proofs.Laws.Cycles
use Rattle.model.proofs.Laws.Phases
use Rattle.model.proofs.Laws.Elapsed.{shown_after, exact_suc, shown_grows, shown_start}

-- a record whose clock and steering are those of e after n cycles
pub record At (n : ℕ) (e x : Engine) : Type 0 where
  pub clock : x.clock ≡ clock_at_exact (exact e.clock + amount_of e.steering n)
  pub steering : x.steering ≡ steering_by e.steering n

module _ (e : Engine) (v : Valid e) where
  start : At 0 e (ticks 0 e)
  unfolding ticks
  start = record {
    clock = sym (rw (Cycles.amount_zero, add-zero) (Cycles.clock_start e.clock (clock_in e.clock v.clock)));
    steering = sym (Phases.steering_zero e.steering (steering_in e.steering v.steering));
  }

  next : (n : ℕ) → At n e (ticks n e) → At (suc n) e (ticks (suc n) e)
  unfolding ticks tick_engine
  next n h = record {
    clock = rw (h.clock, h.steering) (Cycles.clock_on _ _ ∙ ap clock_at_exact (exact_suc e n));
    steering = rw h.steering (Phases.steering_suc e.steering (steering_in e.steering v.steering) n);
  }

  pub ticks_at : (n : ℕ) → At n e (ticks n e)
  ticks_at zero = start
  ticks_at (suc n) = next n (ticks_at n)

  -- the tick after n of them ends at the time shown n + 1 cycles on
  pub ends_at : (n : ℕ) → ends_in_time (ticks n e) ≡ ltb (shown_after e (suc n)) end_of_time
  unfolding shown_after
  ends_at n =
      let h = ticks_at n in
      rw (h.clock, h.steering, Cycles.shown_on, exact_suc) refl

-- n ticks end in time where each of them does
first_in_time : (n : ℕ) (e : Engine) → ends_in_time e ≡ true → in_time_for n (tick_engine e no_inputs) ≡ true
    → in_time_for (suc n) e ≡ true
unfolding in_time_for
first_in_time n e near h = both_true _ _ near h

pub all_in_time : (n : ℕ) (e : Engine) → ((k : ℕ) → k < n → ends_in_time (ticks k e) ≡ true) → in_time_for n e ≡ true
unfolding in_time_for ticks
all_in_time zero e h = refl
all_in_time (suc n) e h =
    first_in_time n e (h 0 (omega arith))
    (all_in_time n (tick_engine e no_inputs) (λ k l. rw (first_of_ticks k e) (h (suc k) (omega arith))))

pub each_in_time : (n : ℕ) (e : Engine) → in_time_for n e ≡ true → (k : ℕ) → k < n → ends_in_time (ticks k e) ≡ true
unfolding in_time_for ticks
each_in_time zero e h k l = absurd (omega arith)
each_in_time (suc n) e h zero l = (both (ends_in_time e) _ h).0
each_in_time (suc n) e h (suc k) l =
    rw (← first_of_ticks k e) (each_in_time n (tick_engine e no_inputs) (both (ends_in_time e) _ h).1 k (omega arith))

-- and that is where the last of them does
module _ (e : Engine) (v : Valid e) where
  last_in_time : (n : ℕ) → in_time_for n e ≡ true → shown_after e n < end_of_time
  last_in_time zero h = omega (arith, shown_start e v, clock_in e.clock v.clock)
  last_in_time (suc n) h =
      ltb-true _ _ (sym (ends_at e v n) ∙ each_in_time (suc n) e h n (omega arith))

  in_time_last : (n : ℕ) → shown_after e n < end_of_time → in_time_for n e ≡ true
  in_time_last n l =
      all_in_time n e
      (λ k m. let later = shown_grows e (suc k) n m in
      ends_at e v k ∙ lt-ltb (shown_after e (suc k)) end_of_time (omega arith))

  pub in_time_by : (n : ℕ) → in_time_for n e ≡ ltb (shown_after e n) end_of_time
  in_time_by n = by (in_time_for n e) refl (ltb (shown_after e n) end_of_time) refl
    where
      by : (a : Bool) → in_time_for n e ≡ a → (b : Bool) → ltb (shown_after e n) end_of_time ≡ b → a ≡ b
      by true p true q = refl
      by false p false q = refl
      by true p false q = sym (lt-ltb _ _ (last_in_time n p)) ∙ q
      by false p true q = sym p ∙ in_time_last n (ltb-true _ _ q)
