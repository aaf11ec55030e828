-- Each turn takes the first part that is left into the next place, so the front of what is left always makes up that of
-- the whole.
use Rattle.values.proofs.FilledPlaces.{Filled}
use Rattle.values.proofs.take_values.Given as goal

abbrev pub invariant-loop-number : goal.invariant-loop-number
invariant-loop-number l = Filled l.s l.initial.numbers l.numbers l.at l.number-index
