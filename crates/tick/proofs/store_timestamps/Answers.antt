-- Each FIFO captures its input's code at the time shown before the tick, as the definition says.
use Rattle.tick.proofs.Within.{clock_within, amount_low, codes_few, capturing}
use Rattle.tick.proofs.store_timestamps.Goals as goal

pub step_by-step-requires : goal.step_by-step-requires
step_by-step-requires c =
    let k = c.requires in rw c.steer-steered.ensures ((clock_within _ _ k).remainder, amount_low _ _ k)

pub capture-fifo1-requires : goal.capture-fifo1-requires
capture-fifo1-requires c =
    let k = c.requires in
    rw (c.step_by-step.ensures, c.steer-steered.ensures) (capturing _ _ k _ (codes_few _ _ k).input1)

pub capture-fifo2-requires : goal.capture-fifo2-requires
capture-fifo2-requires c =
    let k = c.requires in
    rw (c.step_by-step.ensures, c.steer-steered.ensures) (capturing _ _ k _ (codes_few _ _ k).input2)

pub capture-fifo3-requires : goal.capture-fifo3-requires
capture-fifo3-requires c =
    let k = c.requires in
    rw (c.step_by-step.ensures, c.steer-steered.ensures) (capturing _ _ k _ (codes_few _ _ k).input3)

pub returns : goal.returns
returns c =
    simp (
      c.capture-fifo3.ensures,
      c.capture-fifo2.ensures,
      c.capture-fifo1.ensures,
      c.step_by-step.ensures,
      c.steer-steered.ensures,
    )
