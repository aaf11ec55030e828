-- A run is its ticks. Each turn of the definition does one tick more, or finds that the run has ended and leaves it; so
-- by induction on the turns the ticks done are ticks of the record, each allowed, and only the last may place an edge.
use Prim.Native.Nat.{ℕ, zero, suc, ◌≤◌, ◌<◌}
use mathlib.Core.Path.{◌≡◌, refl, sym, ap, ◌∙◌}
use mathlib.Core.Bool.{true, false, not, true≢false}
use native.Mathlib.Decide.{ℕ_discrete}
use native.Mathlib.Omega.{arith}
use lib.Dec.{eqb}
use borrow.Author.Tests.{not-false, eqb-true, ltb-true}
use Rattle.model.specs.declared.Engine.{Engine}
use Rattle.model.specs.declared.Words.{Words}
use Rattle.model.specs.Words.{five, no_words}
use Rattle.model.specs.Tick.{ends_in_time, tick_engine, tick_values, no_inputs, ticks}
use Rattle.model.specs.RunLine.{Stretch, one_tick, places_edge, has_ended, one_more, run}
use Rattle.model.proofs.Laws.Testing.{split, neither}
use Rattle.model.proofs.Laws.InRange.{Valid}
use Rattle.model.proofs.Laws.TickRange.{tick_valid}

-- the values of the last of m ticks; before the first there are none
abbrev pub last_values : ℕ → Engine → Words
last_values zero e = no_words
last_values (suc m) e = tick_values (ticks m e)

-- a run of at most n ticks
pub record Ran (n : ℕ) (e : Engine) (x : Stretch) : Type 0 where
  pub engine : x.engine ≡ ticks x.done e
  pub values : x.values ≡ last_values x.done e
  pub few : x.done ≤ n
  -- no tick of it would get 15, and none but the last placed an edge
  pub allowed : (k : ℕ) → k < x.done → ends_in_time (ticks k e) ≡ true
  pub silent : (k : ℕ) → suc k < x.done → tick_values (ticks k e) ≡ no_words
  -- and if it did fewer, it has ended
  pub ended : x.done < n → has_ended x ≡ true

-- values without an edge are none
pub no_codes : (e : Engine) → (tick_values e).w1 ≡ 0 → (tick_values e).w2 ≡ 0 → tick_values e ≡ no_words
unfolding tick_values
no_codes e one two = λ i. five (one i) (two i) 0 0 0

no_edge : (e : Engine) → places_edge (tick_values e) ≡ false → tick_values e ≡ no_words
no_edge e h =
    let v = tick_values e in
    let n = neither (not (eqb v.w1 0)) (not (eqb v.w2 0)) h in
    no_codes e (eqb-true v.w1 0 (not-false _ n.0)) (eqb-true v.w2 0 (not-false _ n.1))

ran_zero : (e : Engine) → Ran 0 e (run 0 e)
unfolding run ticks
ran_zero e = record {
  engine = refl;
  values = refl;
  few = omega arith;
  allowed = λ k l. absurd (omega arith);
  silent = λ k l. absurd (omega arith);
  ended = λ l. absurd (omega arith);
}

module _ (n : ℕ) (e : Engine) (x : Stretch) (r : Ran n e x) where
  stayed : has_ended x ≡ true → Ran (suc n) e x
  stayed h = record {
    engine = r.engine;
    values = r.values;
    few = omega (arith, r.few);
    allowed = r.allowed;
    silent = r.silent;
    ended = λ l. h;
  }

  module _ (h : has_ended x ≡ false) where
    goes_on : (places_edge x.values ≡ false) × (ends_in_time x.engine ≡ true)
    unfolding has_ended
    goes_on =
        let q = neither (places_edge x.values) (not (ends_in_time x.engine)) h in
        (q.0, not-false (ends_in_time x.engine) q.1)

    allowed_on : (k : ℕ) → k < suc x.done → ends_in_time (ticks k e) ≡ true
    allowed_on k l =
        elim (ℕ_discrete k x.done) [
          | yes q ↦ rw (q, ← r.engine) goes_on.1
          | no q ↦ r.allowed k (omega arith)
        ]

    silent_on : (k : ℕ) → suc k < suc x.done → tick_values (ticks k e) ≡ no_words
    silent_on k l =
        elim (ℕ_discrete (suc k) x.done) [
          | yes q ↦
              let last : x.values ≡ tick_values (ticks k e) = r.values ∙ ap (λ (m : ℕ). last_values m e) (sym q) in
              no_edge (ticks k e) (rw last at goes_on.0)
          | no q ↦ r.silent k (omega arith)
        ]

    ticked : Ran (suc n) e (one_tick x)
    unfolding ticks
    ticked = record {
      engine = ap (λ (y : Engine). tick_engine y no_inputs) r.engine;
      values = ap tick_values r.engine;
      few = omega (arith, r.few);
      allowed = allowed_on;
      silent = silent_on;
      ended = λ l. absurd (true≢false (sym (r.ended (omega arith)) ∙ h));
    }

  ran_more : Ran (suc n) e (one_more x)
  unfolding one_more
  ran_more = split (Ran (suc n) e) (has_ended x) stayed ticked

ran_suc : (n : ℕ) (e : Engine) → Ran n e (run n e) → Ran (suc n) e (run (suc n) e)
unfolding run
ran_suc n e r = ran_more n e (run n e) r

pub ran_ticks : (n : ℕ) (e : Engine) → Ran n e (run n e)
ran_ticks zero e = ran_zero e
ran_ticks (suc n) e = ran_suc n e (ran_ticks n e)

-- a run that may begin does a tick
module _ (n : ℕ) (e : Engine) (some : 1 ≤ n) (near : ends_in_time e ≡ true) where
  begun : (x : Stretch) → Ran n e x → x.done ≡ 0 → ⊥
  unfolding ticks has_ended
  begun x r z =
      let here : x.engine ≡ e = r.engine ∙ ap (λ (m : ℕ). ticks m e) z in
      let none : x.values ≡ no_words = r.values ∙ ap (λ (m : ℕ). last_values m e) z in
      true≢false (sym (rw (here, none, near) at (r.ended (omega arith))))

  pub ran_some : 1 ≤ (run n e).done
  ran_some =
      elim (ℕ_discrete (run n e).done 0) [
        | yes z ↦ absurd (begun (run n e) (ran_ticks n e) z)
        | no z ↦ omega arith
      ]

-- every record on the way is valid
module _ (n : ℕ) (e : Engine) (v : Valid e) where
  tick_on : (k : ℕ) → k < (run n e).done → Valid (ticks k e) → Valid (ticks (suc k) e)
  unfolding ticks
  tick_on k l h =
      tick_valid (ticks k e) no_inputs h (ltb-true _ _ ((ran_ticks n e).allowed k l)) (omega arith)

  start : Valid (ticks 0 e)
  unfolding ticks
  start = v

  pub ticks_valid : (k : ℕ) → k ≤ (run n e).done → Valid (ticks k e)
  ticks_valid zero l = start
  ticks_valid (suc k) l = tick_on k l (ticks_valid k (omega arith))

  pub run_valid : Valid (run n e).engine
  run_valid = rw (ran_ticks n e).engine (ticks_valid (run n e).done (omega arith))
