-- Every command keeps the agreement: a refusal changes neither side, ops 5 to 8 and 10 to 12 change nothing that the
-- ledger knows of, and the other ops do to the record what their entry does to the ledger.
use Prim.Native.Nat.{ℕ}
use mathlib.Core.Path.{◌≡◌}
use mathlib.Core.Bool.{true}
use borrow.Author.Tests.{ne_eqb}
use Rattle.model.specs.declared.Engine.{Engine}
use Rattle.model.specs.declared.Command.{Command}
use Rattle.model.specs.declared.Outcome.{Outcome}
use Rattle.model.specs.Outcome.{refused}
use Rattle.model.specs.OtherOps.{interrupts_read}
use Rattle.model.specs.Preview.{previewed}
use Rattle.model.specs.Departure.{departed, recovered}
use Rattle.model.specs.Ranges.{valid}
use Rattle.model.specs.Execute.{execute}
use Rattle.ledger.specs.Ledger.{Ledger}
use Rattle.ledger.specs.Bookings.{booked, told}
use Rattle.model.proofs.Laws.Accepting.{by_answer, by_op}
use Rattle.ledger.proofs.Follow.Agrees.{Agrees, after}
use Rattle.ledger.proofs.Follow.OnTick.{op_0_agrees}
use Rattle.ledger.proofs.Follow.OnRun.{op_9_agrees}
use Rattle.ledger.proofs.Follow.OnWords.{load_agrees, command_agrees}
use Rattle.ledger.proofs.Follow.OnOrder.{arm_agrees, stop_agrees}

refusal_agrees : (e : Engine) (l : Ledger) (c : Command) (n : ℕ) → (n ≡ 0 → ⊥) → Agrees e l
    → Agrees e (after l c (refused e n))
unfolding told
refusal_agrees e l c n z h = rw (ne_eqb n 0 z) h

pub execute_agrees : (e : Engine) (l : Ledger) (c : Command) → valid e ≡ true → Agrees e l
    → Agrees (execute e c).engine (after l c (execute e c))
unfolding told booked interrupts_read previewed departed recovered
execute_agrees e l c v h =
    by_answer Good e c
    (λ n. refusal_agrees e l c _ n h)
    (λ k. by_op Good e c k.op
    (record {
      tick = op_0_agrees e l c v h;
      load = load_agrees e l c h;
      command = command_agrees e l c h;
      arm = arm_agrees e l c h k;
      stop = stop_agrees e l c h;
      interrupts = λ o. rw o h;
      mask = λ o. rw o h;
      status = λ o. rw o h;
      show = λ o. rw o h;
      run = op_9_agrees e l c v h;
      preview = λ o. rw o h;
      depart = λ o. rw o h;
      recover = λ o. rw o h;
    }))
  where
    Good : Outcome → Type 0
    Good x = Agrees x.engine (after l c x)
