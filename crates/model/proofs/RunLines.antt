-- Run lines in terms of `execute` alone: an accepted op 9 is so many ops 0 without inputs, ended by its count, after
-- the first that places an edge, or before one that would get 15. And the formula: ticks that place no edge are
-- `elapsed`, for every number of them. Document 02, A.1.
use Prim.Native.Nat.{ℕ, ◌+◌, ◌-◌, ◌<◌, ◌≤◌, ◌^◌}
use mathlib.Core.Path.{◌≡◌, sym, ◌∙◌}
use mathlib.Core.Logic.{◌↔◌}
use mathlib.Core.Bool.{true}
use Rattle.model.specs.declared.Engine.{Engine}
use Rattle.model.specs.declared.Command.{Command}
use Rattle.model.specs.declared.Outcome.{Outcome}
use Rattle.model.specs.Tick.{no_inputs}
use Rattle.model.specs.RunLine.{run_line, ticks_told}
use Rattle.model.specs.Elapse.{elapsed}
use Rattle.model.specs.Ranges.{valid}
use Rattle.model.specs.Execute.{execute}
use Rattle.model.specs.Run.{after_ticks, tick_after}
use Rattle.model.proofs.Laws.RunOfTicks as Law

-- why a run of at most a ticks on the record e went no further
pub data Ended (e : Engine) (a : ℕ) (o : Outcome) : Type 0 where
  count : ticks_told o.values ≡ a → Ended e a o
  edge1 : (o.values.w1 ≡ 0 → ⊥) → Ended e a o
  edge2 : (o.values.w2 ≡ 0 → ⊥) → Ended e a o
  time : (tick_after e (ticks_told o.values)).answer ≡ 15 → Ended e a o

pub record IsTicks (e : Engine) (a : ℕ) (o : Outcome) : Type 0 where
  -- v3 has the low 16 bits, and 1 to a ticks are told
  pub low : o.values.w3 < 2 ^ 16
  pub some : 1 ≤ ticks_told o.values
  pub few : ticks_told o.values ≤ a
  -- each tick is accepted, and the record is the one that they leave
  pub accepted : (k : ℕ) → k < ticks_told o.values → (tick_after e k).answer ≡ 0
  pub engine : o.engine ≡ after_ticks e (ticks_told o.values)
  -- none but the last places an edge, and v1 and v2 are the last one's
  pub silent1 : (k : ℕ) → k + 1 < ticks_told o.values → (tick_after e k).values.w1 ≡ 0
  pub silent2 : (k : ℕ) → k + 1 < ticks_told o.values → (tick_after e k).values.w2 ≡ 0
  pub last1 : o.values.w1 ≡ (tick_after e (ticks_told o.values - 1)).values.w1
  pub last2 : o.values.w2 ≡ (tick_after e (ticks_told o.values - 1)).values.w2
  pub v5 : o.values.w5 ≡ 0
  pub ended : Ended e a o

pub run_is_ticks : (e : Engine) (c : Command) → c.op ≡ 9 → (execute e c).answer ≡ 0 → IsTicks e c.a (execute e c)
run_is_ticks e c o h = record {
  low = Law.low e c o h;
  some = Law.some e c o h;
  few = Law.few e c o h;
  accepted = Law.accepted e c o h;
  engine = Law.engine e c o h;
  silent1 = Law.silent1 e c o h;
  silent2 = Law.silent2 e c o h;
  last1 = Law.last1 e c o h;
  last2 = Law.last2 e c o h;
  v5 = Law.v5 e c o h;
  ended = Law.by_end e c o h (Ended e c.a (execute e c)) count edge1 edge2 time;
}

-- a run line of 1 to 1,000,000 ticks is answered as the first op 0 would be
pub answered_as_the_first_tick : (e : Engine) (a : ℕ) → 1 ≤ a → a ≤ 1000000
    → (execute e (run_line a)).answer ≡ (execute e no_inputs).answer
answered_as_the_first_tick = Law.same_answer

-- so it gets 15 exactly where that would
pub gets_15 : (e : Engine) (a : ℕ) → 1 ≤ a → a ≤ 1000000
    → ((execute e (run_line a)).answer ≡ 15) ↔ ((execute e no_inputs).answer ≡ 15)
gets_15 e a low high =
    let same = Law.same_answer e a low high in
    (λ h. sym same ∙ h, λ h. same ∙ h)

-- the formula: n accepted ticks that place no edge, for every n
pub formula : (e : Engine) → valid e ≡ true → (n : ℕ)
    → ((k : ℕ) → k < n → (tick_after e k).answer ≡ 0)
    → ((k : ℕ) → k < n → ((tick_after e k).values.w1 ≡ 0) × ((tick_after e k).values.w2 ≡ 0))
    → after_ticks e n ≡ elapsed n e
formula = Law.quiet_formula
