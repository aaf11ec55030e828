-- The third writing is the adjustment's.
use Rattle.model.specs.OtherOps.{written}
use Rattle.ops.proofs.write.Goals as goal

pub returns-in-2 : goal.returns-in-2
unfolding written
returns-in-2 c = simp (c.write_adjustment.ensures, c.in-2.is)
