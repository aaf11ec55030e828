-- Laws of outcomes. The answer is the number of the first failed check, and the checks are numbered from 4 on, so
-- that a number tells its check; and a TIME read puts back just the bits that a TIME write takes out of the words.
use Prim.Native.Nat.{ℕ, ◌+◌, ◌-◌, ◌≤◌}
use mathlib.Core.Path.{◌≡◌, sym, ◌∙◌}
use mathlib.Core.List.{List, [], ◌∷◌}
use mathlib.Core.Bool.{true, true≢false}
use native.Mathlib.Omega.{arith}
use borrow.Author.Tests.{eq-eqb}
use Rattle.model.specs.declared.Engine.{Engine}
use Rattle.model.specs.declared.Command.{Command}
use Rattle.model.specs.declared.Outcome.{Outcome}
use Rattle.model.specs.Words.{seconds_in, nanoseconds_in, time_words}
use Rattle.model.specs.Record.{power_on}
use Rattle.model.specs.OtherOps.{commanded, written, read_words, read_engine}
use Rattle.model.specs.Ops.{performed}
use Rattle.model.specs.Ranges.{valid}
use Rattle.model.specs.Checks.{last_number, checks, answer_of, passes, Cause}
use Rattle.model.specs.Execute.{execute}
use Rattle.model.specs.Run.{engine_by, engine_from, engine_after}
use Rattle.model.proofs.Laws.Testing.{both_true, fails_answer, answer_fails, answer_none, none_answer}
use Rattle.model.proofs.Laws.Testing.{answer_least, answer_most}
use Rattle.model.proofs.Laws.InRange.{valid_parts, words_in}
use Rattle.model.proofs.Laws.WordFields.{words_of_time}
use Rattle.model.proofs.Laws.Accepting.{numbered, execute_answer, execute_accepted}
use Rattle.model.proofs.Laws.Valid.{power_on_valid, execute_valid}

-- the place of check number i + 4
back : (i : ℕ) → i + 4 - 4 ≡ i
back i = omega arith

module _ (e : Engine) (c : Command) where
  pub answer_cause : (n : ℕ) → 4 ≤ n → (execute e c).answer ≡ n → Cause e c n
  unfolding answer_of
  answer_cause n low h =
      let f = answer_fails 3 (checks e c) (numbered e c) (n - 4) (sym (execute_answer e c) ∙ h ∙ omega arith) in
      record { fails = f.0; above = λ m l u. f.1 (m - 4) (omega arith) }

  pub cause_answer : (n : ℕ) → 4 ≤ n → Cause e c n → (execute e c).answer ≡ n
  unfolding answer_of
  cause_answer n low k =
      execute_answer e c
      ∙ fails_answer 4 (checks e c) (numbered e c) (n - 4) k.fails
      (λ j l. rw (back j) at (k.above (j + 4) (omega arith) (omega arith)))
      ∙ omega arith

  pub accepted_passes : (execute e c).answer ≡ 0 → (n : ℕ) → 4 ≤ n → n ≤ last_number → passes e c n ≡ true
  unfolding answer_of
  accepted_passes h n low high = answer_none 3 (checks e c) (numbered e c) (sym (execute_answer e c) ∙ h) (n - 4)

  pub passes_accepted : ((n : ℕ) → 4 ≤ n → n ≤ last_number → passes e c n ≡ true) → (execute e c).answer ≡ 0
  unfolding answer_of checks
  passes_accepted k =
      execute_answer e c
      ∙ none_answer (checks e c) (λ i l. rw (back i) at (k (i + 4) (omega arith) (omega arith)))

  pub answer_bounds : ((execute e c).answer ≡ 0 → ⊥) → (4 ≤ (execute e c).answer) × ((execute e c).answer ≤ last_number)
  unfolding answer_of checks
  answer_bounds n =
      let most = answer_most 3 (checks e c) (numbered e c) in
      let least = answer_least 4 (checks e c) (numbered e c) in
      let same = execute_answer e c in
      (omega (arith, least (omega arith)), omega arith)

-- from power-on every record is valid, so that number 4 never comes
pub run_valid : (cs : List Command) (e : Engine) → valid e ≡ true → valid (engine_from e cs) ≡ true
unfolding engine_by
run_valid [] e v = v
run_valid (c ∷ cs) e v = run_valid cs (execute e c).engine (execute_valid e c v)

pub list_valid : (cs : List Command) → valid (engine_after cs) ≡ true
list_valid cs = run_valid cs power_on power_on_valid

pub never_4 : (cs : List Command) (c : Command) → (execute (engine_after cs) c).answer ≡ 4 → ⊥
unfolding checks
never_4 cs c h =
    true≢false (sym (list_valid cs) ∙ (answer_cause (engine_after cs) c 4 (omega arith) h).fails)

-- a TIME write with a TIME read: the values, and the words after it, are the words before it
abbrev SameWords : Engine → Outcome → Type 0
SameWords e o = (o.values ≡ e.words) × (o.engine.words ≡ e.words)

written_read : (e : Engine) (c : Command) → c.op ≡ 2 → c.a ≡ 0 → c.b ≡ 0
    → time_words (seconds_in e.words) (nanoseconds_in e.words) 0 ≡ e.words → SameWords e (performed e c)
unfolding performed commanded written read_words read_engine
written_read e c o a b same = rw (o, a, b) (same, same)

pub time_written_read : (e : Engine) (c : Command) → c.op ≡ 2 → c.a ≡ 0 → c.b ≡ 0 → (execute e c).answer ≡ 0
    → ((execute e c).values ≡ e.words) × ((execute e c).engine.words ≡ e.words)
time_written_read e c o a b h =
    let k = execute_accepted e c h in
    let w = words_in e.words (valid_parts e k.0.valid).words in
    let high = (k.0.check8 (both_true _ _ (eq-eqb _ _ o) (eq-eqb _ _ a))).1 in
    rw k.1 (written_read e c o a b (words_of_time e.words w high))
