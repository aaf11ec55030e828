-- The change with the record that it leaves: the outcome that the change makes.
use Rattle.engine.proofs.Steps.{settled_stepped}
use Rattle.engine.proofs.step.Goals as goal

pub returns-in-Ok : goal.returns-in-Ok
returns-in-Ok c = settled_stepped _ _ _ _ c.requires c.in-Ok.ensures c.settle.ensures
