-- Adding place by place with carries is adding totals.
use Rattle.generator.proofs.Carry.{carried_next}
use Rattle.generator.proofs.next_instant.Goals as goal

pub returns : goal.returns
returns c = carried_next c.requires
