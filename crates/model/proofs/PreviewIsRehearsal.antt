-- A preview in terms of `execute` alone: it answers and returns what the adjust write, the ticks and a TIME read would,
-- done one after the other, and changes nothing. Document 02, A.5.
use Prim.Native.Nat.{ℕ, ◌≤◌}
use mathlib.Core.Path.{◌≡◌, refl}
use mathlib.Core.Bool.{true}
use Rattle.model.specs.declared.Engine.{Engine}
use Rattle.model.specs.declared.Command.{Command}
use Rattle.model.specs.declared.Outcome.{Outcome}
use Rattle.model.specs.Preview.{preview_line, rehearsal, time_read}
use Rattle.model.specs.Ranges.{valid}
use Rattle.model.specs.Checks.{passes}
use Rattle.model.specs.Execute.{execute}
use Rattle.model.specs.Run.{first_refusal, engine_from, history_from}
use Rattle.model.proofs.Laws.Rehearsal as Law

pub record IsRehearsal (e : Engine) (a : ℕ) (o : Outcome) : Type 0 where
  -- "The answer is that of the first refusal on the copy, if any"
  pub answer : o.answer ≡ first_refusal (history_from e (rehearsal a))
  -- "returns the five TIME words"
  pub values : o.answer ≡ 0 → o.values ≡ (execute (engine_from e (rehearsal a)) time_read).values

-- an op 10 that passes numbers 4 to 6
pub preview_is_rehearsal : (e : Engine) (c : Command) → c.op ≡ 10
    → passes e c 4 ≡ true → passes e c 5 ≡ true → passes e c 6 ≡ true
    → IsRehearsal e c.a (execute e c)
preview_is_rehearsal e c o on known listed = record {
  answer = Law.answers e c o (Law.passed_4 e c on) (Law.passed_6 e c listed);
  values = Law.shows e c o (Law.passed_4 e c on);
}

-- "Op 10 with a = 1 to 1,000": each of them on every valid record, and no other
pub each_count : (e : Engine) → valid e ≡ true → (a : ℕ) → 1 ≤ a → a ≤ 1000
    → IsRehearsal e a (execute e (preview_line a))
each_count e v a some few =
    preview_is_rehearsal e (preview_line a) refl (Law.valid_passes e (preview_line a) v)
    (Law.known_passes e (preview_line a) refl) (Law.listed_passes e a some few)

pub no_other_count : (e : Engine) (c : Command) → c.op ≡ 10 → (execute e c).answer ≡ 0 → (1 ≤ c.a) × (c.a ≤ 1000)
no_other_count = Law.counts

-- "The real record, words included, is unchanged"
pub changes_nothing : (e : Engine) (c : Command) → c.op ≡ 10 → (execute e c).engine ≡ e
changes_nothing = Law.unchanged
