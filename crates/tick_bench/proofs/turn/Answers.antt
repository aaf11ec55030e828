-- A tick's change made, or nothing, and what it tells.
use Rattle.tick_bench.proofs.Turns.{accepted_tick, refused_tick}
use Rattle.tick_bench.proofs.turn.Goals as goal

pub returns-in-Ok : goal.returns-in-Ok
returns-in-Ok c = accepted_tick _ _ c.requires.valid _ _ c.in-Ok.ensures c.settle.ensures

pub returns-in-Err : goal.returns-in-Err
returns-in-Err c = rw c.number.ensures (refused_tick _ _ c.requires.valid _ c.in-Err.ensures)
