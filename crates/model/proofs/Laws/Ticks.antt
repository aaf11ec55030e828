-- Ticks without inputs, one after the other. On a valid record with time left nothing refuses such a command, and the
-- record after it is valid again; so a list of n of them gives what n ticks are defined as.
use Prim.Native.Nat.{ℕ, zero, suc, ◌<◌}
use mathlib.Core.Path.{◌≡◌, refl, ap, ◌∙◌}
use mathlib.Core.List.{[], ◌∷◌}
use mathlib.Core.Bool.{true, false}
use native.Mathlib.Omega.{arith}
use lib.ListN.{replicate}
use Rattle.model.specs.declared.Engine.{Engine}
use Rattle.model.specs.declared.Outcome.{Outcome}
use Rattle.model.specs.Outcome.{accepted}
use Rattle.model.specs.Tick.{ends_in_time, tick_values, tick_engine, no_inputs, ticks}
use Rattle.model.specs.Ops.{performed}
use Rattle.model.specs.Ranges.{valid}
use Rattle.model.specs.Fields.{field_tests, fields_ok}
use Rattle.model.specs.Checks.{checks, answer_of}
use Rattle.model.specs.Execute.{execute}
use Rattle.model.specs.Run.{engine_by, engine_from}
use Rattle.model.proofs.Laws.Accepting.{execute_answer}
use Rattle.model.proofs.Laws.Valid.{execute_valid}

-- one op 0 without inputs
module _ (e : Engine) (v : valid e ≡ true) (near : ends_in_time e ≡ true) where
  pub tick_answer : answer_of e no_inputs ≡ 0
  unfolding answer_of checks fields_ok field_tests
  tick_answer = rw (v, near)

  pub tick_executed : execute e no_inputs ≡ accepted (tick_values e) (tick_engine e no_inputs)
  unfolding execute performed
  tick_executed = rw tick_answer

  pub tick_left : (execute e no_inputs).engine ≡ tick_engine e no_inputs
  tick_left = ap (λ (o : Outcome). o.engine) tick_executed

  pub tick_valid : valid (tick_engine e no_inputs) ≡ true
  tick_valid = rw (← tick_left) (execute_valid e no_inputs v)

-- a tick of a valid record without time left gets 15
late : (e : Engine) → valid e ≡ true → ends_in_time e ≡ false → answer_of e no_inputs ≡ 15
unfolding answer_of checks fields_ok field_tests
late e v out = rw (v, out)

pub tick_late : (e : Engine) → valid e ≡ true → ends_in_time e ≡ false → (execute e no_inputs).answer ≡ 15
tick_late e v out = execute_answer e no_inputs ∙ late e v out

-- the first tick may be told off as well as the last
pub first_of_ticks : (n : ℕ) (e : Engine) → ticks n (tick_engine e no_inputs) ≡ ticks (suc n) e
unfolding ticks
first_of_ticks zero e = refl
first_of_ticks (suc n) e = ap (λ (x : Engine). tick_engine x no_inputs) (first_of_ticks n e)

none_executed : (e : Engine) → engine_from e [] ≡ ticks 0 e
unfolding engine_by ticks
none_executed e = refl

one_executed : (n : ℕ) (e : Engine) → valid e ≡ true → ends_in_time e ≡ true
    → engine_from (tick_engine e no_inputs) (replicate n no_inputs) ≡ ticks n (tick_engine e no_inputs)
    → engine_from e (no_inputs ∷ replicate n no_inputs) ≡ ticks (suc n) e
unfolding engine_by
one_executed n e v near h =
    ap (λ (x : Engine). engine_from x (replicate n no_inputs)) (tick_left e v near) ∙ h ∙ first_of_ticks n e

-- n ops 0 without inputs, with time left for each, are n ticks
pub ticks_executed : (n : ℕ) (e : Engine) → valid e ≡ true
    → ((k : ℕ) → k < n → ends_in_time (ticks k e) ≡ true)
    → engine_from e (replicate n no_inputs) ≡ ticks n e
unfolding ticks
ticks_executed zero e v near = none_executed e
ticks_executed (suc n) e v near =
    let first : ends_in_time e ≡ true = near 0 (omega arith) in
    one_executed n e v first
    (ticks_executed n (tick_engine e no_inputs) (tick_valid e v first)
    (λ k l. rw (first_of_ticks k e) (near (suc k) (omega arith))))
