-- The values of an outcome are 16-bit words. A tick returns codes of at most 16, a read the words that it leaves in
-- the record, which is valid again, op 8 the record's words, and the interrupt and status words have bits below 15; a
-- run returns its last tick's codes and its ticks, at most a million, in two words, a preview and op 12 the words of a
-- time, op 11 those of a pattern; every other value is 0. An answer is the number of a check.
use Prim.Native.Nat.{ℕ, zero, suc, ◌<◌, ◌≤◌}
use mathlib.Core.Path.{◌≡◌}
use mathlib.Core.Bool.{true}
use native.Mathlib.Omega.{arith}
use native.Mathlib.Decide.{ℕ_discrete}
use lib.Dec.{eqb}
use Rattle.model.specs.declared.Engine.{Engine}
use Rattle.model.specs.declared.Command.{Command}
use Rattle.model.specs.declared.Outcome.{Outcome}
use Rattle.model.specs.declared.Generator.{Generator}
use Rattle.model.specs.Words.{no_words}
use Rattle.model.specs.Edges.{edge_code}
use Rattle.model.specs.Clock.{shown}
use Rattle.model.specs.Generator.{placed, is_due}
use Rattle.model.specs.Tick.{tick_step, tick_values, ticks}
use Rattle.model.specs.RunLine.{run, ran}
use Rattle.model.specs.OtherOps
use Rattle.model.specs.Preview.{previewed}
use Rattle.model.specs.Departure.{departed, recovered}
use Rattle.model.specs.Ops.{performed}
use Rattle.model.specs.Ranges.{valid}
use Rattle.model.specs.Bounds.{WordsRange}
use Rattle.model.specs.Checks.{last_number}
use Rattle.model.specs.Execute.{execute}
use Rattle.model.proofs.Laws.Testing.{split}
use Rattle.model.proofs.Laws.InRange.{Valid, valid_parts, words_in}
use Rattle.model.proofs.Laws.WordFields.{time_words_in}
use Rattle.model.proofs.Laws.Listed.{listed_in}
use Rattle.model.proofs.Laws.Accepting.{Accepted, by_answer, by_op}
use Rattle.model.proofs.Laws.Latching.{interrupts_read_lem, status_read}
use Rattle.model.proofs.Laws.Eighths.{eighth_below_8}
use Rattle.model.proofs.Laws.RunTicks.{last_values, ran_ticks}
use Rattle.model.proofs.Laws.Valid.{performed_valid}
use Rattle.model.proofs.Laws.Departures.{four_words_in}
use Rattle.model.proofs.Laws.Outcomes.{answer_bounds}

code_low : (direction eighth : ℕ) → eighth < 8 → edge_code direction eighth ≤ 16
code_low direction eighth h =
    split (λ (x : ℕ). x ≤ 16) (eqb direction 0) (λ z. omega arith) (λ z. omega arith)

placed_low : (g : Generator) (a s : ℕ) → placed g a s ≤ 16
unfolding placed
placed_low g a s =
    split (λ (x : ℕ). x ≤ 16) (is_due g a s)
    (λ due. code_low g.direction _ (eighth_below_8 g a s))
    (λ z. omega arith)

pub no_words_in : WordsRange no_words
no_words_in = omega arith

tick_values_in : (e : Engine) → WordsRange (tick_values e)
unfolding tick_values
tick_values_in e =
    let p = placed_low e.generator1 (shown e.clock) (tick_step e) in
    let q = placed_low e.generator2 (shown e.clock) (tick_step e) in
    omega arith

-- the values of a read are the words of the record after it
commanded_values_in : (e : Engine) (write read : ℕ) → Valid (OtherOps.commanded e write read).engine
    → WordsRange (OtherOps.commanded e write read).values
unfolding OtherOps.commanded OtherOps.read_engine
commanded_values_in e write read =
    split (λ (x : Outcome). Valid x.engine → WordsRange x.values) (eqb read 8)
    (λ y v. no_words_in)
    (λ y v. words_in _ v.words)

interrupt_values_in : (e : Engine) → valid e ≡ true → WordsRange (OtherOps.interrupts_read e).values
unfolding OtherOps.interrupts_read
interrupt_values_in e h = let low = (interrupts_read_lem e h).others in omega arith

-- the values of a run: codes of its last tick, and at most a million ticks in two words
last_values_in : (e : Engine) (m : ℕ) → WordsRange (last_values m e)
last_values_in e zero = no_words_in
last_values_in e (suc m) = tick_values_in (ticks m e)

ran_values_in : (e : Engine) (a : ℕ) → a ≤ 1000000 → WordsRange (ran e a).values
unfolding ran
ran_values_in e a few =
    let r = ran_ticks a e in
    let w : WordsRange (run a e).values = rw r.values (last_values_in e (run a e).done) in
    let most = r.few in
    omega arith

-- a preview returns the words of a time
previewed_values_in : (e : Engine) (a : ℕ) → WordsRange (previewed e a).values
unfolding previewed OtherOps.read_words
previewed_values_in e a = time_words_in _ _ 0 (omega arith)

-- op 11 returns the words of a pattern, and op 12 those of a time
departed_values_in : (e : Engine) (field : ℕ) → WordsRange (departed e field).values
unfolding departed
departed_values_in e field = four_words_in _

recovered_values_in : (e : Engine) (a field : ℕ) → WordsRange (recovered e a field).values
unfolding recovered
recovered_values_in e a field = time_words_in _ _ 0 (omega arith)

performed_values_in : (e : Engine) (c : Command) → Accepted e c → WordsRange (performed e c).values
performed_values_in e c k =
    let v = valid_parts e k.valid in
    by_op (λ (x : Outcome). Valid x.engine → WordsRange x.values) e c k.op
    (record {
      tick = λ o w. tick_values_in e;
      load = λ o w. no_words_in;
      command = λ o w. commanded_values_in e c.a c.b w;
      arm = λ o w. no_words_in;
      stop = λ o w. no_words_in;
      interrupts = λ o w. interrupt_values_in e k.valid;
      mask = λ o w. no_words_in;
      status = λ o w. let low = (status_read e).above in omega arith;
      show = λ o w. words_in e.words v.words;
      run = λ o w. ran_values_in e c.a ((listed_in c k.fields).run o).1;
      preview = λ o w. previewed_values_in e c.a;
      depart = λ o w. departed_values_in e c.a;
      recover = λ o w. recovered_values_in e c.a c.b;
    })
    (performed_valid e c k)

-- on every record, since one that is not valid is refused
pub values_in : (e : Engine) (c : Command) → WordsRange (execute e c).values
values_in e c =
    by_answer (λ (x : Outcome). WordsRange x.values) e c (λ n. no_words_in) (λ k. performed_values_in e c k)

pub answer_small : (e : Engine) (c : Command) → (execute e c).answer ≤ last_number
answer_small e c =
    elim (ℕ_discrete (execute e c).answer 0) [
      | yes z ↦ omega arith
      | no n ↦ (answer_bounds e c n).1
    ]
