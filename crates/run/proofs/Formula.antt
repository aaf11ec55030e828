-- A run by formula. While nothing ends it, its next tick is the next step of the formula; and what has ended stays. So
-- a run is the formula over its quiet ticks, and one tick more where an edge falls.
use Prim.Native.Nat.{ℕ, zero, suc, ◌+◌, ◌-◌, ◌≤◌, ◌<◌}
use mathlib.Core.Path.{◌≡◌, refl, ap, ◌∙◌}
use mathlib.Core.Bool.{true, ◌||◌}
use native.Mathlib.Nat.{zero-add, suc-add}
use native.Mathlib.Decide.{ℕ_discrete}
use native.Mathlib.Omega.{arith}
use lib.Dec.{ltb}
use borrow.Author.Tests.{lt-ltb, le-ltb}
use Rattle.model.specs.declared.Engine.{Engine}
use Rattle.model.specs.Clock.{end_of_time}
use Rattle.model.specs.Tick.{ends_in_time, tick_values, no_inputs}
use Rattle.model.specs.RunLine.{Stretch, one_tick, places_edge, has_ended, one_more, run}
use Rattle.model.specs.Elapse.{elapsed}
use Rattle.model.proofs.Laws.InRange.{Valid, parts_valid}
use Rattle.model.proofs.Laws.Latching.{placed_due}
use Rattle.model.proofs.Laws.RunTicks.{run_valid}
use Rattle.model.proofs.Laws.Ticks.{tick_answer}
use Rattle.model.proofs.Laws.Elapsed.{shown_after, is_due_by, Quiet, due, shown_elapsed, due_elapsed, shown_grows}
use Rattle.model.proofs.Laws.Elapsed.{quiet_less, elapsed_zero, tick_elapsed, values_elapsed}
use Rattle.tick.specs.Ticks.{Ticks}
use Rattle.run.specs.Runs.{quietly}

-- a tick places an edge exactly when a generator is due
places_due : (e : Engine) → places_edge (tick_values e) ≡ (due e e.generator1 || due e e.generator2)
unfolding tick_values
places_due e = simp placed_due

module _ (e : Engine) (v : Valid e) where
  -- after k quiet ticks one more ends in time, or it would pass the end
  in_time : (k : ℕ) → ends_in_time (elapsed k e) ≡ ltb (shown_after e (suc k)) end_of_time
  in_time k = ap (λ (t : ℕ). ltb t end_of_time) (shown_elapsed e k)

  goes_on : (k : ℕ) → shown_after e (suc k) < end_of_time → one_more (quietly k e) ≡ one_tick (quietly k e)
  unfolding one_more has_ended
  goes_on k l = rw (in_time k, lt-ltb (shown_after e (suc k)) end_of_time l)

  out_of_time : (k : ℕ) → end_of_time ≤ shown_after e (suc k) → one_more (quietly k e) ≡ quietly k e
  unfolding one_more has_ended
  out_of_time k l = rw (in_time k, le-ltb (shown_after e (suc k)) end_of_time l)

  after_edge : (k : ℕ) → places_edge (tick_values (elapsed k e)) ≡ true
      → one_more (one_tick (quietly k e)) ≡ one_tick (quietly k e)
  unfolding one_more has_ended
  after_edge k h = rw h

  quiet_on : (k : ℕ) → Quiet (suc k) e → one_tick (quietly k e) ≡ quietly (suc k) e
  quiet_on k q = λ i. record {
    engine = tick_elapsed e v k q i;
    values = values_elapsed e v k q i;
    done = suc k;
  }

  -- the first ticks, without an edge
  run_next : (n : ℕ) → run (suc n) e ≡ one_more (run n e)
  unfolding run
  run_next n = refl

  run_zero : run 0 e ≡ quietly 0 e
  unfolding run
  run_zero = rw (elapsed_zero e v)

  run_suc : (n : ℕ) → Quiet (suc n) e → shown_after e (suc n) < end_of_time → run n e ≡ quietly n e
      → run (suc n) e ≡ quietly (suc n) e
  run_suc n q l r = run_next n ∙ ap one_more r ∙ goes_on n l ∙ quiet_on n q

  run_quiet : (n : ℕ) → Quiet n e → shown_after e n < end_of_time → run n e ≡ quietly n e
  run_quiet zero q l = run_zero
  run_quiet (suc n) q l =
      let earlier = shown_grows e n (suc n) (omega arith) in
      run_suc n q l (run_quiet n (quiet_less e n (suc n) (omega arith) q) (omega arith))

  -- what has ended stays
  same : (n : ℕ) (x : Stretch) → one_more x ≡ x → run n e ≡ x → run (suc n) e ≡ x
  same n x o h = run_next n ∙ ap one_more h ∙ o

  same_on : (n d : ℕ) (x : Stretch) → one_more x ≡ x → run n e ≡ x → run (d + n) e ≡ x
  same_on n zero x o h = rw zero-add h
  same_on n (suc d) x o h = rw suc-add (same (d + n) x o (same_on n d x o h))

  stays : (n m : ℕ) (x : Stretch) → n ≤ m → one_more x ≡ x → run n e ≡ x → run m e ≡ x
  stays n m x l o h = let d : m ≡ m - n + n = omega arith in rw d (same_on n (m - n) x o h)

  -- m quiet ticks in time: the record after them is valid, and may tick where time is left
  module _ (m : ℕ) (q : Quiet m e) where
    pub elapsed_valid : shown_after e m < end_of_time → Valid (elapsed m e)
    elapsed_valid near = rw (run_quiet m q near) at (run_valid m e v)

    pub elapsed_ticks : shown_after e (suc m) < end_of_time → Ticks (elapsed m e) no_inputs
    elapsed_ticks near =
        let earlier = shown_grows e m (suc m) (omega arith) in
        let on = parts_valid (elapsed m e) (elapsed_valid (omega arith)) in
        record {
          passed = tick_answer (elapsed m e) on (in_time m ∙ lt-ltb (shown_after e (suc m)) end_of_time near);
          op = refl;
        }

    -- a run that ends without an edge, by its count or by the end of time
    pub run_passes : (n : ℕ) → m ≤ n → shown_after e m < end_of_time
        → ((m ≡ n → ⊥) → end_of_time ≤ shown_after e (suc m))
        → run n e ≡ quietly m e
    run_passes n l near all =
        elim (ℕ_discrete m n) [
          | yes z ↦ rw (← z) (run_quiet m q near)
          | no z ↦ stays m n _ l (out_of_time m (all z)) (run_quiet m q near)
        ]

    -- a run that ends after a tick with an edge
    pub run_meets : (n : ℕ) → m < n → shown_after e (suc m) < end_of_time
        → (is_due_by e.generator1 (shown_after e (suc m)) || is_due_by e.generator2 (shown_after e (suc m))) ≡ true
        → run n e ≡ one_tick (quietly m e)
    unfolding elapsed
    run_meets n l near due₁₂ =
        let earlier = shown_grows e m (suc m) (omega arith) in
        let one = due_elapsed e m e.generator1 in
        let two = due_elapsed e m e.generator2 in
        let edge : places_edge (tick_values (elapsed m e)) ≡ true =
        places_due (elapsed m e) ∙ (λ i. one i || two i) ∙ due₁₂
        in
        stays (suc m) n _ l (after_edge m edge)
        (run_next m ∙ ap one_more (run_quiet m q (omega arith)) ∙ goes_on m near)
