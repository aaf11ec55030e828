-- A refusal moves no FIFO, nor does an order that reads none; and where a FIFO moves, the command is accepted and is a
-- tick or reads one.
use mathlib.Core.Path.{◌≡◌, refl, sym, subst, ◌∙◌}
use mathlib.Core.Bool.{true, false, and-false}
use lib.Dec.{eqb}
use borrow.Author.Tests.{eqb-true}
use Rattle.model.specs.declared.Engine.{Engine}
use Rattle.model.specs.declared.Command.{Command}
use Rattle.model.specs.declared.Outcome.{Outcome}
use Rattle.model.specs.Outcome.{refused}
use Rattle.model.specs.Checks.{answer_of, reads_fifo}
use Rattle.model.specs.Execute.{execute}
use Rattle.model.proofs.Laws.Testing.{both}
use Rattle.change.specs.declared.Change.{Change}
use Rattle.change.specs.declared.refusal.Refusal.{Refusal}
use Rattle.change.specs.declared.refusal.Refusal.TheVariants.{Record, Op, Fields, NoTimestamp, Time, Amount, NoCycles}
use Rattle.change.specs.declared.refusal.Refusal.TheVariants.{Waiting, Interval, Running, Past, TimeOver, FieldFull}
use Rattle.change.specs.declared.refusal.Refusal.TheVariants.{NoDeparture}
use Rattle.change.specs.Refusals.{number_of}
use Rattle.change.specs.Changes.{moves_fifo, Gives}
use Rattle.std.specs.Prelude.{Result, Ok, Err, IsErrAnd}

-- no refusal has number 0
pub number_some : (r : Refusal) → eqb (number_of r) 0 ≡ false
number_some Record = refl
number_some Op = refl
number_some Fields = refl
number_some NoTimestamp = refl
number_some Time = refl
number_some Amount = refl
number_some NoCycles = refl
number_some Waiting = refl
number_some Interval = refl
number_some Running = refl
number_some Past = refl
number_some TimeOver = refl
number_some FieldFull = refl
number_some NoDeparture = refl

module _ (e : Engine) (c : Command) where
  refusal_still : eqb (answer_of e c) 0 ≡ false → moves_fifo e c ≡ false
  unfolding moves_fifo
  refusal_still n = rw n

  -- a refusal makes the model's, and no number is 0
  pub refused_gives : (r : Refusal) (o : Outcome) → eqb (answer_of e c) 0 ≡ false → refused e (number_of r) ≡ o
      → Gives e c o (Err r)
  refused_gives r o some is = record { is = is; moving = sym (refusal_still some) }

  -- the refusal with the number that the table gives
  pub refusal_gives : (r : Refusal) → number_of r ≡ answer_of e c → Gives e c (execute e c) (Err r)
  unfolding execute
  refusal_gives r is =
      let some = number_some r in
      refused_gives r _ (rw (← is) some) (rw (← is, some) refl)

  -- a refusal that `?` hands on is the same one
  pub handed_on : {r : Result Change Refusal} {x y : Refusal} {o : Outcome} → IsErrAnd r (λ z. z ≡ y) → y ≡ x
      → Gives e c o (Err x)
      → Gives e c o r
  handed_on {r = Ok m} is same g = absurd is
  handed_on {r = Err z} {o} is same g = subst (λ (x : Refusal). Gives e c o (Err x)) (sym (is ∙ same)) g

  pub others_still : eqb c.op 0 ≡ false → reads_fifo c ≡ false → moves_fifo e c ≡ false
  unfolding moves_fifo
  others_still o n = rw (o, n) (and-false (eqb (answer_of e c) 0))

  module _ (moves : moves_fifo e c ≡ true) where
    pub moves_passed : answer_of e c ≡ 0
    unfolding moves_fifo
    moves_passed = eqb-true _ _ (both (eqb (answer_of e c) 0) _ moves).0

    pub moves_reads : eqb c.op 0 ≡ false → reads_fifo c ≡ true
    unfolding moves_fifo
    moves_reads o = rw o at (both (eqb (answer_of e c) 0) _ moves).1
