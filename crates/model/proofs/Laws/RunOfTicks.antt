-- Why a run line is its ticks, in terms of `execute`. A tick of a valid record with time left is accepted and gives
-- what `ticks` says, so the facts of Laws.RunTicks are facts about ops 0; without time left it gets 15.
use Prim.Native.Nat.{ℕ, zero, suc, ◌+◌, ◌-◌, ◌<◌, ◌≤◌, ◌^◌}
use mathlib.Core.Path.{◌≡◌, refl, sym, ap, ◌∙◌}
use mathlib.Core.Bool.{Bool, true, false, ◌||◌, not}
use native.Mathlib.Decide.{ℕ_discrete, dec_lt}
use native.Mathlib.Omega.{arith}
use lib.Dec.{eqb, leb}
use borrow.Author.Tests.{eqb-false, le-leb, not-true}
use Rattle.model.specs.declared.Engine.{Engine}
use Rattle.model.specs.declared.Command.{Command}
use Rattle.model.specs.declared.Outcome.{Outcome}
use Rattle.model.specs.declared.Words.{Words}
use Rattle.model.specs.Words.{no_words}
use Rattle.model.specs.Tick.{ends_in_time, tick_values, no_inputs, ticks}
use Rattle.model.specs.RunLine.{run_line, ticks_told, has_ended, run, ran}
use Rattle.model.specs.Elapse.{elapsed}
use Rattle.model.specs.Ranges.{valid}
use Rattle.model.specs.Fields.{field_tests, fields_ok}
use Rattle.model.specs.Checks.{checks, answer_of}
use Rattle.model.specs.Execute.{execute}
use Rattle.model.specs.Run.{after_ticks, tick_after}
use Rattle.model.proofs.Laws.InRange.{valid_parts, parts_valid}
use Rattle.model.proofs.Laws.Listed.{listed_in}
use Rattle.model.proofs.Laws.Accepting.{Accepted, tick_first, run_first, performed_row, execute_answer}
use Rattle.model.proofs.Laws.Accepting.{execute_accepted}
use Rattle.model.proofs.Laws.RunTicks.{Ran, last_values, no_codes, ran_ticks, ran_some, ticks_valid}
use Rattle.model.proofs.Laws.Ticks.{tick_executed, tick_late, ticks_executed}
use Rattle.model.proofs.Laws.Elapsed.{silent_elapsed}

module _ (e : Engine) (c : Command) (o : c.op ≡ 9) (h : (execute e c).answer ≡ 0) where
  k : Accepted e c
  k = (execute_accepted e c h).0

  r : Ran c.a e (run c.a e)
  r = ran_ticks c.a e

  given : execute e c ≡ ran e c.a
  given = (execute_accepted e c h).1 ∙ performed_row e c 9 o

  told : ticks_told (execute e c).values ≡ (run c.a e).done
  unfolding ran
  told = rw given (omega arith)

  left : (execute e c).engine ≡ (run c.a e).engine
  unfolding ran
  left = rw given refl

  codes : ((execute e c).values.w1 ≡ (run c.a e).values.w1) × ((execute e c).values.w2 ≡ (run c.a e).values.w2)
  unfolding ran
  codes = (rw given refl, rw given refl)

  pub low : (execute e c).values.w3 < 2 ^ 16
  unfolding ran
  low = rw given (omega arith)

  pub v5 : (execute e c).values.w5 ≡ 0
  unfolding ran
  v5 = rw given refl

  valid_on : (m : ℕ) → m ≤ (run c.a e).done → valid (ticks m e) ≡ true
  valid_on m l = parts_valid (ticks m e) (ticks_valid c.a e (valid_parts e k.valid) m l)

  -- the ops 0 are the ticks
  after_is : (m : ℕ) → m ≤ (run c.a e).done → after_ticks e m ≡ ticks m e
  after_is m l = ticks_executed m e k.valid (λ j s. r.allowed j (omega arith))

  tick_is : (m : ℕ) → m < (run c.a e).done → tick_after e m ≡ execute (ticks m e) no_inputs
  tick_is m l = ap (λ (y : Engine). execute y no_inputs) (after_is m (omega arith))

  values_are : (m : ℕ) → m < (run c.a e).done → (tick_after e m).values ≡ tick_values (ticks m e)
  values_are m l =
      ap (λ (y : Outcome). y.values)
      (tick_is m l ∙ tick_executed (ticks m e) (valid_on m (omega arith)) (r.allowed m l))

  pub some : 1 ≤ ticks_told (execute e c).values
  some = rw told (ran_some c.a e ((listed_in c k.fields).run o).0 (k.check15 (run_first c o)))

  pub few : ticks_told (execute e c).values ≤ c.a
  few = rw told r.few

  pub accepted : (m : ℕ) → m < ticks_told (execute e c).values → (tick_after e m).answer ≡ 0
  accepted m l =
      let s : m < (run c.a e).done = rw told at l in
      ap (λ (y : Outcome). y.answer)
      (tick_is m s ∙ tick_executed (ticks m e) (valid_on m (omega arith)) (r.allowed m s))

  pub engine : (execute e c).engine ≡ after_ticks e (ticks_told (execute e c).values)
  engine = rw told (left ∙ r.engine ∙ sym (after_is (run c.a e).done (omega arith)))

  silent : (m : ℕ) → m + 1 < ticks_told (execute e c).values → (tick_after e m).values ≡ no_words
  silent m l =
      let s : m + 1 < (run c.a e).done = rw told at l in
      values_are m (omega arith) ∙ r.silent m (omega arith)

  pub silent1 : (m : ℕ) → m + 1 < ticks_told (execute e c).values → (tick_after e m).values.w1 ≡ 0
  silent1 m l = ap (λ (w : Words). w.w1) (silent m l)

  pub silent2 : (m : ℕ) → m + 1 < ticks_told (execute e c).values → (tick_after e m).values.w2 ≡ 0
  silent2 m l = ap (λ (w : Words). w.w2) (silent m l)

  -- v1 and v2 are the last tick's
  last_is : (m : ℕ) → 1 ≤ m → m ≤ (run c.a e).done → last_values m e ≡ (tick_after e (m - 1)).values
  last_is zero s l = absurd (omega arith)
  last_is (suc m) s l = let same : suc m - 1 ≡ m = omega arith in rw same (sym (values_are m (omega arith)))

  last : (run c.a e).values ≡ (tick_after e (ticks_told (execute e c).values - 1)).values
  last = rw told (r.values ∙ last_is (run c.a e).done (rw told at some) (omega arith))

  pub last1 : (execute e c).values.w1 ≡ (tick_after e (ticks_told (execute e c).values - 1)).values.w1
  last1 = codes.0 ∙ ap (λ (w : Words). w.w1) last

  pub last2 : (execute e c).values.w2 ≡ (tick_after e (ticks_told (execute e c).values - 1)).values.w2
  last2 = codes.1 ∙ ap (λ (w : Words). w.w2) last

  -- one more would get 15
  out_of_time : ends_in_time (run c.a e).engine ≡ false → (tick_after e (ticks_told (execute e c).values)).answer ≡ 15
  out_of_time out =
      let m = (run c.a e).done in
      let here : after_ticks e m ≡ ticks m e = after_is m (omega arith) in
      rw (told, here) (tick_late (ticks m e) (valid_on m (omega arith)) (rw r.engine at out))

  -- why it ended, by cases
  pub by_end : (P : Type 0)
      → (ticks_told (execute e c).values ≡ c.a → P)
      → (((execute e c).values.w1 ≡ 0 → ⊥) → P)
      → (((execute e c).values.w2 ≡ 0 → ⊥) → P)
      → ((tick_after e (ticks_told (execute e c).values)).answer ≡ 15 → P)
      → P
  unfolding has_ended
  by_end P count edge1 edge2 time =
      elim (dec_lt (run c.a e).done c.a) [
        | yes l ↦ cases (eqb (run c.a e).values.w1 0) refl (eqb (run c.a e).values.w2 0) refl
            (ends_in_time (run c.a e).engine) refl (r.ended l)
        | no l ↦ count (omega (arith, told, r.few))
      ]
    where
      cases : (n₁ : Bool) → eqb (run c.a e).values.w1 0 ≡ n₁ → (n₂ : Bool) → eqb (run c.a e).values.w2 0 ≡ n₂
          → (t : Bool) → ends_in_time (run c.a e).engine ≡ t → ((not n₁ || not n₂) || not t) ≡ true → P
      cases false n₁ b n₂ t near z = edge1 (λ q. eqb-false _ 0 n₁ (sym codes.0 ∙ q))
      cases true n₁ false n₂ t near z = edge2 (λ q. eqb-false _ 0 n₂ (sym codes.1 ∙ q))
      cases true n₁ true n₂ t near z = time (out_of_time (near ∙ not-true t z))

-- a run line of listed ticks and a tick without inputs pass number 6, and every other test of theirs is the same
same_tests : (e : Engine) (a : ℕ) → leb 1 a ≡ true → leb a 1000000 ≡ true
    → answer_of e (run_line a) ≡ answer_of e no_inputs
unfolding answer_of checks fields_ok field_tests
same_tests e a low high = rw (low, high) refl

pub same_answer : (e : Engine) (a : ℕ) → 1 ≤ a → a ≤ 1000000
    → (execute e (run_line a)).answer ≡ (execute e no_inputs).answer
same_answer e a low high =
    execute_answer e (run_line a) ∙ same_tests e a (le-leb 1 a low) (le-leb a 1000000 high)
    ∙ sym (execute_answer e no_inputs)

-- accepted ops 0 are ticks with time left
module _ (e : Engine) (v : valid e ≡ true) where
  near_here : (n : ℕ) → ((k : ℕ) → k < n → ends_in_time (ticks k e) ≡ true) → (tick_after e n).answer ≡ 0
      → ends_in_time (ticks n e) ≡ true
  near_here n before a =
      let here : after_ticks e n ≡ ticks n e = ticks_executed n e v before in
      (execute_accepted (ticks n e) no_inputs (rw here at a)).0.check15 (tick_first no_inputs refl)

  near : (n : ℕ) → ((k : ℕ) → k < n → (tick_after e k).answer ≡ 0) → (k : ℕ) → k < n → ends_in_time (ticks k e) ≡ true
  near zero a k l = absurd (omega arith)
  near (suc n) a k l =
      let before = near n (λ j s. a j (omega arith)) in
      elim (ℕ_discrete k n) [ yes q ↦ rw q (near_here n before (a n (omega arith))) | no q ↦ before k (omega arith) ]

  -- so where none places an edge they are the formula
  module _ (n : ℕ) (a : (k : ℕ) → k < n → (tick_after e k).answer ≡ 0)
      (s : (k : ℕ) → k < n → ((tick_after e k).values.w1 ≡ 0) × ((tick_after e k).values.w2 ≡ 0)) where
    values_here : (k : ℕ) → k < n → (tick_after e k).values ≡ tick_values (ticks k e)
    values_here k l =
        let here : after_ticks e k ≡ ticks k e = ticks_executed k e v (λ j m. near n a j (omega arith)) in
        let accepted = (execute_accepted (ticks k e) no_inputs (rw here at (a k l))).0 in
        ap (λ (y : Engine). (execute y no_inputs).values) here
        ∙ ap (λ (y : Outcome). y.values) (tick_executed (ticks k e) accepted.valid (near n a k l))

    silent_here : (k : ℕ) → k < n → tick_values (ticks k e) ≡ no_words
    silent_here k l =
        let same = values_here k l in
        no_codes (ticks k e)
        (sym (ap (λ (w : Words). w.w1) same) ∙ (s k l).0) (sym (ap (λ (w : Words). w.w2) same) ∙ (s k l).1)

    pub quiet_formula : after_ticks e n ≡ elapsed n e
    quiet_formula = ticks_executed n e v (near n a) ∙ silent_elapsed e (valid_parts e v) n silent_here
