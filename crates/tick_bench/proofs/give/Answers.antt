-- The change of a command that moves no FIFO, applied.
use Rattle.tick_bench.proofs.GivenInPlace.{still_gave, refused_gave}
use Rattle.tick_bench.proofs.give.Goals as goal

pub returns-in-Ok : goal.returns-in-Ok
returns-in-Ok c = rw c.apply.ensures (still_gave _ _ c.requires _ c.in-Ok.ensures)

pub returns-in-Err : goal.returns-in-Err
returns-in-Err c = refused_gave _ _ c.requires _ c.in-Err.ensures
