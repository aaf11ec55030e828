-- A run line on a valid record has two checks, as a tick has: its fields, and the time that is left for its first tick;
-- no other check of the table speaks of op 9. An accepted one moves no FIFO.
use Prim.Native.Nat.{◌≤◌}
use mathlib.Core.Path.{◌≡◌, refl, sym, ap, ◌∙◌}
use mathlib.Core.Bool.{true, false, cond}
use borrow.Author.Tests.{leb-true}
use Rattle.model.specs.declared.Engine.{Engine}
use Rattle.model.specs.declared.Command.{Command}
use Rattle.model.specs.Tests.{every}
use Rattle.model.specs.Outcome.{accepted}
use Rattle.model.specs.Tick.{ends_in_time}
use Rattle.model.specs.RunLine.{run_values, run, ran}
use Rattle.model.specs.Ops.{performed}
use Rattle.model.specs.Ranges.{valid}
use Rattle.model.specs.Fields.{run_fields, fields_ok, field_tests}
use Rattle.model.specs.Checks.{answer_of, checks}
use Rattle.model.specs.Execute.{execute}
use Rattle.model.proofs.Laws.Testing.{facts}
use Rattle.change.specs.declared.refusal.Refusal.TheVariants.{Fields, TimeOver}
use Rattle.std.specs.Prelude.{Ok, Err}
use Rattle.change.specs.Changes.{Gives}
use Rattle.change.proofs.Given.{refused_gives, others_still}
use Rattle.run.specs.Runs.{ran_to}
use Rattle.run.proofs.Kept.{run_applied}

-- a run line has few ticks
pub few_ticks : (c : Command) → every (run_fields c) ≡ true → c.a ≤ 1000000
few_ticks c f = leb-true c.a 1000000 (facts (run_fields c) f).1.0

module _ (e : Engine) (c : Command) (v : valid e ≡ true) (o : c.op ≡ 9) where
  run_answer : answer_of e c ≡ cond (every (run_fields c)) (cond (ends_in_time e) 0 15) 6
  unfolding answer_of checks fields_ok field_tests
  run_answer = rw (v, o) refl

  pub fields_refused : every (run_fields c) ≡ false → Gives e c (execute e c) (Err Fields)
  unfolding execute
  fields_refused f = refused_gives e c Fields _ (rw (run_answer, f) refl) (rw (run_answer, f) refl)

  module _ (f : every (run_fields c) ≡ true) where
    pub late_refused : ends_in_time e ≡ false → Gives e c (execute e c) (Err TimeOver)
    unfolding execute
    late_refused t = refused_gives e c TimeOver _ (rw (run_answer, f, t) refl) (rw (run_answer, f, t) refl)

    pub run_gives : ends_in_time e ≡ true → Gives e c (execute e c) (Ok (ran_to (run c.a e)))
    unfolding execute performed ran
    run_gives t = record {
      is = ap (accepted (run_values (run c.a e))) (run_applied c.a e) ∙ rw (run_answer, f, t, o) refl;
      moving = sym (others_still e c (rw o refl) (rw o refl));
    }
