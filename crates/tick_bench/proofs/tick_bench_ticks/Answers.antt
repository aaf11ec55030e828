-- From power-on every list of commands leaves a valid record, and ticks keep it so.
use Rattle.model.proofs.Laws.Outcomes.{list_valid}
use Rattle.tick_bench.proofs.tick_bench_ticks.Goals as goal

pub ticked-requires : goal.ticked-requires
ticked-requires c = rw c.prepared.ensures (list_valid _)

pub ticked-end-requires : goal.ticked-end-requires
ticked-end-requires c = c.ticked.ensures.keeps

pub returns : goal.returns
returns c =
    simp (c.ticked-end.ensures.is, c.ticked.ensures.is, c.prepared.ensures)
