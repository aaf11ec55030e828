-- Commands that are no tick and read no FIFO may be given in place, one after the other.
use mathlib.Core.Path.{refl}
use Rattle.model.specs.Run.{engine_by}
use Rattle.model.proofs.Laws.Valid.{power_on_valid}
use Rattle.tick_bench.proofs.prepared.Goals as goal

pub give-loaded-requires : goal.give-loaded-requires
give-loaded-requires c =
    rw (c.command_of.ensures, c.power_on.ensures)
    (record { on = power_on_valid; no_tick = refl; reads_none = refl })

pub returns : goal.returns
unfolding engine_by
returns c =
    simp (
      c.give.ensures.is,
      c.command_of-4.ensures,
      c.give-one.ensures.is,
      c.command_of-3.ensures,
      c.give-steered.ensures.is,
      c.command_of-2.ensures,
      c.give-loaded.ensures.is,
      c.command_of.ensures,
      c.power_on.ensures,
    )
