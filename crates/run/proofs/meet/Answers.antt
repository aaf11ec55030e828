-- The tick after the quiet ones is worked out from the record that they leave; its events come only with an edge, and
-- its inputs bring none.
use native.Mathlib.Omega.{arith}
use native.Mathlib.Numerals.{add-one}
use Rattle.model.specs.Tick.{tick_engine, tick_values}
use Rattle.model.specs.Elapse.{elapsed}
use Rattle.model.proofs.Laws.InRange.{valid_parts, clock_in}
use Rattle.generator.proofs.Placed.{code_placed, after_generated, event_completed, sequence_completed}
use Rattle.tick.specs.Ticks.{outputs_of}
use Rattle.tick.proofs.Within.{clock_within, amount_low, cycle, ticking1, ticking2}
use Rattle.run.proofs.Last.{latched_outputs, generator1_stays, generator2_stays, words_stay, mask_stays}
use Rattle.run.proofs.meet.Goals as goal

pub new-requires-clause-clock_range : goal.new-requires-clause-clock_range
new-requires-clause-clock_range c = clock_in _ (valid_parts _ c.requires.start.on).clock

pub new-requires-clause-steering_range : goal.new-requires-clause-steering_range
new-requires-clause-steering_range c = (valid_parts _ c.requires.start.on).steering

pub pass-before-requires : goal.pass-before-requires
pass-before-requires c = record {
  starting = c.requires.start;
  clock_value = c.new.ensures.clock_value;
  amount_value = c.new.ensures.amount_value;
}

pub step_by-step-requires : goal.step_by-step-requires
step_by-step-requires c =
    let t = c.requires.more in
    rw (c.steer-steered.ensures, c.pass-before.ensures) ((clock_within _ _ t).remainder, amount_low _ _ t)

pub tick_clock-next-requires : goal.tick_clock-next-requires
tick_clock-next-requires c =
    rw (c.step_by-step.ensures, c.steer-steered.ensures, c.pass-before.ensures)
    (cycle _ _ c.requires.more)

pub advance_outputs-outputs-requires-clause-first : goal.advance_outputs-outputs-requires-clause-first
unfolding elapsed
advance_outputs-outputs-requires-clause-first c =
    rw (
      c.tick_clock-next.ensures,
      c.step_by-step.ensures,
      c.steer-steered.ensures,
      c.pass-before.ensures,
    )
    (ticking1 _ _ c.requires.more)

pub advance_outputs-outputs-requires-clause-second : goal.advance_outputs-outputs-requires-clause-second
unfolding elapsed
advance_outputs-outputs-requires-clause-second c =
    rw (
      c.tick_clock-next.ensures,
      c.step_by-step.ensures,
      c.steer-steered.ensures,
      c.pass-before.ensures,
    )
    (ticking2 _ _ c.requires.more)

pub overflow_add-done : goal.overflow_add-done
overflow_add-done c =
    omega (arith, c.requires.start.few)

pub returns : goal.returns
unfolding tick_engine tick_values outputs_of
returns c =
    simp (
      c.advance_outputs-outputs.ensures,
      c.latch-tac.ensures,
      c.tick_clock-next.ensures,
      c.step_by-step.ensures,
      c.steer-steered.ensures,
      c.pass-before.ensures,
      code_placed,
      after_generated,
      event_completed,
      sequence_completed,
      latched_outputs,
      generator1_stays,
      generator2_stays,
      words_stay,
      mask_stays,
      add-one,
    )
