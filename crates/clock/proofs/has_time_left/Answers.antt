-- The step of an amount in range is small, so that the test of the end of time may be asked.
use Rattle.model.proofs.Laws.ExactTime.{cycle_amount_in, step_bounds}
use Rattle.clock.proofs.has_time_left.Goals as goal

pub step_by-requires : goal.step_by-requires
step_by-requires c =
    let p = c.requires in
    (p.0.remainder, rw c.cycle_amount.ensures (cycle_amount_in _ p.1).high)

pub ends_in_time-requires : goal.ends_in_time-requires
ends_in_time-requires c =
    let p = c.requires in
    let amount = cycle_amount_in _ p.1 in
    (p.0, rw (c.step_by.ensures, c.cycle_amount.ensures) (step_bounds _ _ p.0.remainder amount).1)
