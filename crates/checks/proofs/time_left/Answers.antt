-- A valid record has its clock and its steering in range.
use Rattle.model.proofs.Laws.InRange.{valid_parts, clock_in}
use Rattle.checks.proofs.time_left.Goals as goal

pub has_time_left-requires : goal.has_time_left-requires
has_time_left-requires c =
    let v = valid_parts _ c.requires.e_value in
    (clock_in _ v.clock, v.steering)
