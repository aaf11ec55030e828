-- A tick on a valid record has two checks: its fields, and the time that is left; no other check of the table speaks
-- of op 0. And a tick that stores no timestamp leaves the FIFOs as they were.
use mathlib.Core.Path.{◌≡◌, refl, sym, ap, ◌∙◌}
use mathlib.Core.Bool.{Bool, true, false, cond, ◌||◌, false≢true}
use borrow.Author.Tests.{eq-eqb}
use Rattle.model.specs.declared.Engine.{Engine}
use Rattle.model.specs.declared.Command.{Command}
use Rattle.model.specs.Tests.{every}
use Rattle.model.specs.Outcome.{accepted}
use Rattle.model.specs.Tick.{ends_in_time, tick_engine, tick_values}
use Rattle.model.specs.Ops.{performed}
use Rattle.model.specs.Ranges.{valid}
use Rattle.model.specs.Fields.{tick_fields, fields_ok, field_tests}
use Rattle.model.specs.Checks.{answer_of, checks}
use Rattle.model.specs.Execute.{execute}
use Rattle.change.specs.Changes.{change_to, applied, fifos_moved, moves_fifo, Gives}
use Rattle.change.proofs.Given.{refused_gives}
use Rattle.change.specs.declared.refusal.Refusal.TheVariants.{Fields, TimeOver}
use Rattle.std.specs.Prelude.{Ok, Err}
use Rattle.fifo.proofs.Arrivals.{stored_where_free, not_stored}
use Rattle.tick.specs.Ticks.{Ticks, stores_any}

module _ (e : Engine) (c : Command) (v : valid e ≡ true) (o : c.op ≡ 0) where
  tick_answer : answer_of e c ≡ cond (every (tick_fields c)) (cond (ends_in_time e) 0 15) 6
  unfolding answer_of checks fields_ok field_tests
  tick_answer = rw (v, o) refl

  pub fields_refused : every (tick_fields c) ≡ false → Gives e c (execute e c) (Err Fields)
  unfolding execute
  fields_refused f = refused_gives e c Fields _ (rw (tick_answer, f) refl) (rw (tick_answer, f) refl)

  module _ (f : every (tick_fields c) ≡ true) where
    pub late_refused : ends_in_time e ≡ false → Gives e c (execute e c) (Err TimeOver)
    unfolding execute
    late_refused t = refused_gives e c TimeOver _ (rw (tick_answer, f, t) refl) (rw (tick_answer, f, t) refl)

    pub ticks : ends_in_time e ≡ true → Ticks e c
    ticks t = record { passed = tick_answer ∙ rw (f, t) refl; op = o }

-- a test of three parts that fails fails in each
none : {a b c : Bool} → a || (b || c) ≡ false → (a ≡ false) × (b ≡ false) × (c ≡ false)
none {a = false} {b = false} h = (refl, refl, h)
none {a = false} {b = true} h = absurd (false≢true (sym h))
none {a = true} h = absurd (false≢true (sym h))

module _ (e : Engine) (c : Command) (k : Ticks e c) where
  -- where no timestamp is stored the FIFOs of the definition are those of the record
  fifos_moved_lem : (moves : Bool) → stores_any e c ≡ moves
      → applied (cond moves (fifos_moved e c) e) (change_to (tick_values e) (tick_engine e c) moves) ≡ tick_engine e c
  unfolding tick_engine
  fifos_moved_lem true h = rw k.op refl
  fifos_moved_lem false h =
      let n = none h in
      rw (not_stored _ _ _ _ n.0, not_stored _ _ _ _ n.1, not_stored _ _ _ _ n.2) refl

  pub cycle_gives : Gives e c (execute e c) (Ok (change_to (tick_values e) (tick_engine e c) (stores_any e c)))
  unfolding execute performed moves_fifo
  cycle_gives = record {
    is = ap (accepted (tick_values e)) (fifos_moved_lem (stores_any e c) refl) ∙ rw (k.passed, k.op) refl;
    moving = rw (eq-eqb _ _ k.passed, eq-eqb _ _ k.op) (simp stored_where_free);
  }
