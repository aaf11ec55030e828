-- Every part is worked out from the record before the tick, and the bits are latched one after the other in the order
-- of the table of positions.
use Rattle.model.specs.Tick.{tick_engine, tick_values, tick_events}
use Rattle.generator.proofs.Placed.{code_placed, after_generated, event_completed, sequence_completed}
use Rattle.fifo.proofs.Arrivals.{first_of_all, dropped_where_full}
use Rattle.interrupts.proofs.Table.{latch_in_turn}
use Rattle.tick.specs.Ticks.{outputs_of, inputs_of}
use Rattle.tick.proofs.Within.{clock_within, amount_low, cycle, ticking1, ticking2}
use Rattle.tick.proofs.cycle.Goals as goal

pub step_by-step-requires : goal.step_by-step-requires
step_by-step-requires c =
    let k = c.requires in rw c.steer-steered.ensures ((clock_within _ _ k).remainder, amount_low _ _ k)

pub tick_clock-next-requires : goal.tick_clock-next-requires
tick_clock-next-requires c = rw (c.step_by-step.ensures, c.steer-steered.ensures) (cycle _ _ c.requires)

pub advance_outputs-outputs-requires-clause-first : goal.advance_outputs-outputs-requires-clause-first
advance_outputs-outputs-requires-clause-first c =
    rw (c.tick_clock-next.ensures, c.step_by-step.ensures, c.steer-steered.ensures) (ticking1 _ _ c.requires)

pub advance_outputs-outputs-requires-clause-second : goal.advance_outputs-outputs-requires-clause-second
advance_outputs-outputs-requires-clause-second c =
    rw (c.tick_clock-next.ensures, c.step_by-step.ensures, c.steer-steered.ensures) (ticking2 _ _ c.requires)

pub returns : goal.returns
unfolding tick_engine tick_values tick_events outputs_of inputs_of
returns c =
    simp (
      c.arrive_inputs-inputs.ensures,
      c.advance_outputs-outputs.ensures,
      c.latch-tac.ensures,
      c.tick_clock-next.ensures,
      c.step_by-step.ensures,
      c.steer-steered.ensures,
      code_placed,
      after_generated,
      event_completed,
      sequence_completed,
      first_of_all,
      dropped_where_full,
      latch_in_turn,
    )
