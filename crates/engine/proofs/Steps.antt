-- Accepted or refused, a change is the model's outcome, which has a valid record again where the record was valid; a
-- record that is not valid is refused with 4; and the latched bits of an accepted command's record are 16 bits.
use Prim.Native.Nat.{ℕ, ◌<◌, ◌≤◌, ◌^◌}
use mathlib.Core.Path.{◌≡◌, refl, sym, ap, subst, ◌∙◌}
use mathlib.Core.Bool.{true, false}
use native.Mathlib.Omega.{arith}
use lib.Dec.{eqb}
use lib.ListN.{get_or}
use borrow.Author.Tests.{eq-eqb, le-ltb}
use Rattle.model.specs.declared.Engine.{Engine}
use Rattle.model.specs.declared.Command.{Command}
use Rattle.model.specs.declared.Outcome.{Outcome}
use Rattle.model.specs.Outcome.{refused}
use Rattle.model.specs.Ops.{ops, unknown, performed}
use Rattle.model.specs.Ranges.{valid}
use Rattle.model.specs.Checks.{checks, answer_of, reads_fifo}
use Rattle.model.specs.Execute.{execute}
use Rattle.model.proofs.Laws.InRange.{valid_parts}
use Rattle.model.proofs.Laws.Parts.{interrupts_in}
use Rattle.model.proofs.Laws.Bits.{only_bits_lt}
use Rattle.model.proofs.Laws.Accepting.{accepted_facts, performed_row}
use Rattle.model.proofs.Laws.Valid.{execute_valid}
use Rattle.change.specs.declared.Change.{Change}
use Rattle.std.specs.Prelude.{Result, Ok, Err}
use Rattle.change.specs.declared.refusal.Refusal.{Refusal}
use Rattle.change.specs.declared.refusal.Refusal.TheVariants.{Record, Op}
use Rattle.change.specs.Changes.{outcome_of, Gives}
use Rattle.change.proofs.Given.{refusal_gives, others_still}
use Rattle.op.specs.declared.Op.{Op as OpName}
use Rattle.engine.specs.Stepped.{Performing, Stepped}

module _ (e : Engine) (c : Command) where
  -- an op that is none of 0 to 7 is the last arm's
  pub last_op : {op : OpName} → Performing e c op → 8 ≤ c.op → c.op ≡ 8
  last_op start past = omega (arith, start.few)

  -- an op is its row of the table; one that is neither 0 nor 2 moves no FIFO
  pub row_gives : {m : Change} (n : ℕ) → c.op ≡ n → Gives e c (get_or ops n unknown e c) (Ok m)
      → Gives e c (performed e c) (Ok m)
  row_gives {m} n o g = subst (λ (r : Outcome). Gives e c r (Ok m)) (sym (performed_row e c n o)) g

  pub stays_gives : {m : Change} (n : ℕ) → c.op ≡ n → eqb n 0 ≡ false → eqb n 2 ≡ false → m.moves ≡ false
      → outcome_of e c (Ok m) ≡ get_or ops n unknown e c
      → Gives e c (performed e c) (Ok m)
  stays_gives n o no_tick no_command still is =
      let two : eqb c.op 2 ≡ false = ap (λ x. eqb x 2) o ∙ no_command in
      let none : reads_fifo c ≡ false = rw two refl in
      row_gives n o
      (record { is = is; moving = still ∙ sym (others_still e c (ap (λ x. eqb x 0) o ∙ no_tick) none) })

  pub accepted_gives : {m : Change} → answer_of e c ≡ 0 → Gives e c (performed e c) (Ok m)
      → Gives e c (execute e c) (Ok m)
  unfolding execute
  accepted_gives a g = rw (eq-eqb _ _ a) g

  -- a valid record stays valid
  pub gives_stepped : {r : Result Change Refusal} → valid e ≡ true → Gives e c (execute e c) r
      → Stepped e c (outcome_of e c r)
  gives_stepped v g = record {
    is = g.is;
    keeps = ap (λ o. valid o.engine) g.is ∙ execute_valid e c v;
  }

  -- what a change tells, with the record after it
  pub settled_stepped : (m : Change) (n : Engine) → valid e ≡ true → Gives e c (execute e c) (Ok m)
      → n ≡ (execute e c).engine
      → Stepped e c (record { answer = 0; values = m.values; engine = n })
  settled_stepped m n v g settled =
      let answer = ap (λ (o : Outcome). o.answer) g.is in
      let values = ap (λ (o : Outcome). o.values) g.is in
      record {
        is = λ i. record { answer = answer i; values = values i; engine = settled i };
        keeps = ap valid settled ∙ execute_valid e c v;
      }

  -- an op above 12 is refused with 5
  pub unknown_gives : valid e ≡ true → 12 < c.op → Gives e c (execute e c) (Err Op)
  unfolding answer_of checks
  unknown_gives v h =
      let none = le-ltb c.op 13 (omega arith) in
      refusal_gives e c Op (rw (v, none) refl)

  pub malformed : valid e ≡ false → refused e 4 ≡ execute e c
  unfolding execute answer_of checks
  malformed h = rw h

  pub malformed_gives : valid e ≡ false → Gives e c (execute e c) (Err Record)
  unfolding answer_of checks
  malformed_gives h = refusal_gives e c Record (rw h refl)

  pub latched_low : answer_of e c ≡ 0 → e.interrupts.latched < 2 ^ 16
  latched_low h =
      let v = valid_parts e (accepted_facts e c h).valid in
      only_bits_lt _ _ (interrupts_in e.interrupts v.interrupts).0
