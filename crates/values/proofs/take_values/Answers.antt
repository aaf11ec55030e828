-- Each turn takes the first part that is left into the next place, so the front of what is left always makes up that of
-- the whole.
use native.Mathlib.Omega.{arith}
use lib.ListN.{drop}
use Rattle.std.proofs.lemmas.List.{set-get_or}
use Rattle.text.proofs.Laws.FirstPart.{rest_is}
use Rattle.values.specs.Taking.{TakenFrom}
use Rattle.values.proofs.FilledPlaces.{front_on, front_stop}
use Rattle.values.proofs.take_values.Goals as goal
use Rattle.values.proofs.take_values.Goals.{After-take_value-next}

taken : (c : After-take_value-next) → TakenFrom (drop c.loop-number.at c.args.s.now) c.take_value-next.result
taken c = rw (rest_is c.args.s.now c.loop-number.at) at c.take_value-next.ensures

pub returns-in_default : goal.returns-in_default
returns-in_default c =
    rw set-get_or
    (front_stop _ _ (taken (goal.at.returns-in_default c).After-take_value-next) c.loop-number.invariant
    (omega (arith, c.loop-number.invariant.same, c.loop-number-test.true)) c.in_default.is)

pub loop-number-preserved : goal.loop-number-preserved
loop-number-preserved c =
    front_on _ _ (taken (goal.at.loop-number-preserved c).After-take_value-next) c.loop-number.invariant
    (omega (arith, c.loop-number.invariant.same, c.loop-number-test.true)) _ c.in-Some.is
