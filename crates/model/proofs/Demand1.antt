-- Demand 1, about the definitions: nothing but the number of the first failed check comes out of a refused command,
-- its five values are zero, and the record is unchanged. `execute` is a total function, so every record and every
-- command, however malformed, has its outcome.
use Prim.Native.Nat.{ℕ, ◌≤◌}
use mathlib.Core.Path.{◌≡◌}
use mathlib.Core.Logic.{◌↔◌}
use mathlib.Core.List.{List}
use mathlib.Core.Bool.{true}
use Rattle.model.specs.declared.Engine.{Engine}
use Rattle.model.specs.declared.Command.{Command}
use Rattle.model.specs.declared.Outcome.{Outcome}
use Rattle.model.specs.Checks.{last_number, passes, Cause}
use Rattle.model.specs.Execute.{execute}
use Rattle.model.specs.Run.{engine_after}
use Rattle.model.proofs.Laws.Accepting.{execute_refused}
use Rattle.model.proofs.Laws.Outcomes

-- what comes out of a refused command, beside its number
pub record Refusal (e : Engine) (o : Outcome) : Type 0 where
  pub v1 : o.values.w1 ≡ 0
  pub v2 : o.values.w2 ≡ 0
  pub v3 : o.values.w3 ≡ 0
  pub v4 : o.values.w4 ≡ 0
  pub v5 : o.values.w5 ≡ 0
  pub unchanged : o.engine ≡ e

pub refusal : (e : Engine) (c : Command) → ((execute e c).answer ≡ 0 → ⊥) → Refusal e (execute e c)
refusal e c n = rw (execute_refused e c n) (search)

-- the answer is n exactly when check n fails and every check above it passes
pub one_cause : (e : Engine) (c : Command) (n : ℕ) → 4 ≤ n → n ≤ last_number → ((execute e c).answer ≡ n) ↔ Cause e c n
one_cause e c n low high = (Outcomes.answer_cause e c n low, Outcomes.cause_answer e c n low)

-- it is 0 exactly when every check passes
pub accepted_cause : (e : Engine) (c : Command)
    → ((execute e c).answer ≡ 0) ↔ ((n : ℕ) → 4 ≤ n → n ≤ last_number → passes e c n ≡ true)
accepted_cause e c = (Outcomes.accepted_passes e c, Outcomes.passes_accepted e c)

-- and it is no other number
pub no_other_number : (e : Engine) (c : Command) → ((execute e c).answer ≡ 0 → ⊥)
    → (4 ≤ (execute e c).answer) × ((execute e c).answer ≤ last_number)
no_other_number = Outcomes.answer_bounds

-- number 4 never comes in a list from power-on
pub never_4 : (cs : List Command) (c : Command) → (execute (engine_after cs) c).answer ≡ 4 → ⊥
never_4 = Outcomes.never_4
