-- Why a preview is its rehearsal. Its checks from 9 on are those of the adjust write, then that each tick ends in time;
-- on a valid record the ticks are refused for nothing else, the first of them that does not end in time with 15. So the
-- first refusal is the first failed check, and without one the copy is the record that the commands leave.
use Prim.Native.Nat.{ℕ, zero, suc, ◌≤◌}
use mathlib.Core.Path.{◌≡◌, refl, sym, ap, ◌∙◌}
use mathlib.Core.Bool.{Bool, true, false, ◌&&◌, cond}
use lib.Dec.{eqb, leb}
use lib.ListN.{replicate}
use borrow.Author.Tests.{eq-eqb, le-leb}
use Rattle.model.specs.declared.Engine.{Engine}
use Rattle.model.specs.declared.Command.{Command}
use Rattle.model.specs.declared.Outcome.{Outcome}
use Rattle.model.specs.Words.{whole_in, count_in}
use Rattle.model.specs.Tick.{ends_in_time, tick_engine, no_inputs, in_time_for}
use Rattle.model.specs.OtherOps.{adjust_written, written, read_words, commanded}
use Rattle.model.specs.Preview.{preview_line, previewed, rehearsed, adjust_write, rehearsal, time_read}
use Rattle.model.specs.Ops.{performed}
use Rattle.model.specs.Ranges.{valid}
use Rattle.model.specs.Fields.{fields_ok, field_tests}
use Rattle.model.specs.Checks.{writes, adjusts, passes, checks, answer_of}
use Rattle.model.specs.Execute.{execute}
use Rattle.model.specs.Run.{first_refusal, engine_by, history_by, engine_from, history_from}
use Rattle.model.proofs.Laws.Testing.{or_right}
use Rattle.model.proofs.Laws.Listed.{listed_in}
use Rattle.model.proofs.Laws.Accepting.{Accepted, by_answer, performed_row, execute_answer, execute_accepted}
use Rattle.model.proofs.Laws.Valid.{execute_valid}
use Rattle.model.proofs.Laws.Outcomes.{run_valid}
use Rattle.model.proofs.Laws.Ticks.{tick_executed, tick_valid, tick_late, ticks_executed}
use Rattle.model.proofs.Laws.Rehearsed.{each_in_time}

-- ticks without inputs, one after the other: the first that does not end in time gets 15
none_refused : (e : Engine) → first_refusal (history_from e (replicate 0 no_inputs)) ≡ cond (in_time_for 0 e) 0 15
unfolding history_by in_time_for
none_refused e = refl

module _ (n : ℕ) (e : Engine) (v : valid e ≡ true) where
  one_in_time : ends_in_time e ≡ true
      → first_refusal (history_from (tick_engine e no_inputs) (replicate n no_inputs))
      ≡ cond (in_time_for n (tick_engine e no_inputs)) 0 15
      → first_refusal (history_from e (replicate (suc n) no_inputs)) ≡ cond (in_time_for (suc n) e) 0 15
  unfolding history_by in_time_for
  one_in_time near h = rw (tick_executed e v near, near) h

  one_late : ends_in_time e ≡ false
      → first_refusal (history_from e (replicate (suc n) no_inputs)) ≡ cond (in_time_for (suc n) e) 0 15
  unfolding history_by in_time_for
  one_late late = rw (tick_late e v late, late) refl

either : (n : ℕ) (e : Engine) → valid e ≡ true
    → (ends_in_time e ≡ true
    → first_refusal (history_from (tick_engine e no_inputs) (replicate n no_inputs))
    ≡ cond (in_time_for n (tick_engine e no_inputs)) 0 15)
    → first_refusal (history_from e (replicate (suc n) no_inputs)) ≡ cond (in_time_for (suc n) e) 0 15
either n e v h = by (ends_in_time e) refl
  where
    by : (b : Bool) → ends_in_time e ≡ b
        → first_refusal (history_from e (replicate (suc n) no_inputs)) ≡ cond (in_time_for (suc n) e) 0 15
    by true near = one_in_time n e v near (h near)
    by false late = one_late n e v late

first_late : (n : ℕ) (e : Engine) → valid e ≡ true
    → first_refusal (history_from e (replicate n no_inputs)) ≡ cond (in_time_for n e) 0 15
first_late zero e v = none_refused e
first_late (suc n) e v = either n e v (λ near. first_late n (tick_engine e no_inputs) (tick_valid e v near))

-- numbers 4 and 6
pub passed_4 : (e : Engine) (c : Command) → passes e c 4 ≡ true → valid e ≡ true
unfolding checks
passed_4 e c h = h

pub passed_6 : (e : Engine) (c : Command) → passes e c 6 ≡ true → fields_ok c ≡ true
unfolding checks
passed_6 e c h = h

pub valid_passes : (e : Engine) (c : Command) → valid e ≡ true → passes e c 4 ≡ true
unfolding checks
valid_passes e c v = v

pub known_passes : (e : Engine) (c : Command) → c.op ≡ 10 → passes e c 5 ≡ true
unfolding checks
known_passes e c o = rw o refl

pub listed_passes : (e : Engine) (a : ℕ) → 1 ≤ a → a ≤ 1000 → passes e (preview_line a) 6 ≡ true
unfolding checks fields_ok field_tests
listed_passes e a some few = rw (le-leb 1 a some, le-leb a 1000 few) refl

pub counts : (e : Engine) (c : Command) → c.op ≡ 10 → (execute e c).answer ≡ 0 → (1 ≤ c.a) × (c.a ≤ 1000)
counts e c o h = let f = (listed_in c (execute_accepted e c h).0.fields).preview o in (f.0, f.1)

-- what numbers 9 to 11 ask of an adjust write, and of a preview
abbrev nine : Engine → Bool
nine e = leb 1 (whole_in e.words) && true

abbrev ten : Engine → Bool
ten e = leb 1 (count_in e.words)

abbrev eleven_free : Engine → Bool
eleven_free e = eqb e.steering.waiting.cycles 0

module _ (e : Engine) (v : valid e ≡ true) where
  write_answer : answer_of e adjust_write ≡ cond (nine e) (cond (ten e) (cond (eleven_free e) 0 11) 10) 9
  unfolding answer_of checks fields_ok field_tests
  write_answer = rw v refl

  module _ (c : Command) (o : c.op ≡ 10) (f : fields_ok c ≡ true) where
    preview_answer : answer_of e c
        ≡ cond (nine e)
        (cond (ten e) (cond (eleven_free e) (cond (in_time_for c.a (adjust_written e)) 0 15) 11) 10)
        9
    unfolding answer_of checks
    preview_answer = rw (v, f, o) refl

  -- an accepted write leaves what the ticks begin with
  write_left : answer_of e adjust_write ≡ 0 → (execute e adjust_write).engine ≡ adjust_written e
  unfolding execute performed commanded written
  write_left h = rw h refl

-- a TIME read of a valid record
pub time_read_lem : (e : Engine) → valid e ≡ true → (execute e time_read).values ≡ read_words e 0
unfolding execute answer_of checks fields_ok field_tests performed commanded written
time_read_lem e v = rw v refl

-- the first refusal, by the three tests of the write and that of the ticks
by_tests : (a b d : Bool) (late rest : ℕ) → (a ≡ true → b ≡ true → d ≡ true → rest ≡ late)
    → cond a (cond b (cond d late 11) 10) 9
    ≡ cond (eqb (cond a (cond b (cond d 0 11) 10) 9) 0) rest (cond a (cond b (cond d 0 11) 10) 9)
by_tests true true true late rest h = sym (h refl refl refl)
by_tests true true false late rest h = refl
by_tests true false d late rest h = refl
by_tests false b d late rest h = refl

module _ (e : Engine) (c : Command) (o : c.op ≡ 10) (v : valid e ≡ true) where
  -- the ticks behind an accepted write
  write_accepted : nine e ≡ true → ten e ≡ true → eleven_free e ≡ true → answer_of e adjust_write ≡ 0
  write_accepted n t f = write_answer e v ∙ rw (n, t, f) refl

  written_valid : answer_of e adjust_write ≡ 0 → valid (adjust_written e) ≡ true
  written_valid h = rw (← write_left e v h) (execute_valid e adjust_write v)

  rest : ℕ
  rest = first_refusal (history_from (execute e adjust_write).engine (replicate c.a no_inputs))

  rest_late : answer_of e adjust_write ≡ 0 → rest ≡ cond (in_time_for c.a (adjust_written e)) 0 15
  unfolding rest
  rest_late h = rw (write_left e v h) (first_late c.a (adjust_written e) (written_valid h))

  first : first_refusal (history_from e (rehearsal c.a))
      ≡ cond (eqb (answer_of e adjust_write) 0) rest (answer_of e adjust_write)
  unfolding history_by rest
  first = rw (← execute_answer e adjust_write) refl

  pub answers : fields_ok c ≡ true → (execute e c).answer ≡ first_refusal (history_from e (rehearsal c.a))
  answers f =
      execute_answer e c
      ∙ preview_answer e v c o f
      ∙ by_tests (nine e) (ten e) (eleven_free e) _ rest (λ n t d. rest_late (write_accepted n t d))
      ∙ rw (first, write_answer e v) refl

  -- an accepted preview shows the copy's time
  module _ (h : (execute e c).answer ≡ 0) where
    k : Accepted e c
    k = (execute_accepted e c h).0

    passed : answer_of e adjust_write ≡ 0
    passed =
        let one : adjusts c ≡ true = rw o refl in
        let n = le-leb 1 _ (k.check9 (or_right (writes 1 c) _ one)) in
        let t = le-leb 1 _ (k.check10 one) in
        let f = eq-eqb _ 0 (k.check11 one) in
        write_accepted (rw n refl) t f

    left : engine_from e (rehearsal c.a) ≡ rehearsed e c.a
    unfolding engine_by
    left =
        ap (λ (x : Engine). engine_from x (replicate c.a no_inputs)) (write_left e v passed)
        ∙ ticks_executed c.a (adjust_written e) (written_valid passed)
        (each_in_time c.a (adjust_written e) (k.check15previewed o))

    pub shows : (execute e c).values ≡ (execute (engine_from e (rehearsal c.a)) time_read).values
    unfolding previewed
    shows =
        ap (λ (x : Outcome). x.values) ((execute_accepted e c h).1 ∙ performed_row e c 10 o)
        ∙ sym (ap (λ (x : Engine). read_words x 0) left)
        ∙ sym (time_read_lem _ (run_valid (rehearsal c.a) e v))

-- accepted or refused, the record stays
pub unchanged : (e : Engine) (c : Command) → c.op ≡ 10 → (execute e c).engine ≡ e
unfolding previewed
unchanged e c o =
    by_answer (λ (x : Outcome). x.engine ≡ e) e c
    (λ n. refl)
    (λ k. ap (λ (x : Outcome). x.engine) (performed_row e c 10 o))
