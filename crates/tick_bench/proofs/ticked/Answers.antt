-- A tick keeps the record valid, so the next may be made; each turn runs one command of the list.
use mathlib.Core.Path.{sym, ap, ◌∙◌}
use Rattle.tick_bench.specs.Ticks.{ticks}
use Rattle.tick_bench.proofs.Turns.{turn_leads, none_left}
use Rattle.tick_bench.proofs.ticked.Goals as goal

pub loop-preserved : goal.loop-preserved
loop-preserved c =
    let once = c.turn-run.ensures in
    (once.keeps, turn_leads _ _ once c.loop-test.true ∙ c.loop.invariant.1)

pub returns : goal.returns
returns c = record {
  is =
      sym (none_left _ _ _ _ c.loop-test.false) ∙ c.loop.invariant.1
      ∙ ap (λ x. ticks x c.args.n c.args.run) c.command_of-c.ensures;
  keeps = c.loop.invariant.0;
}
