-- The two checks of a tick in the table's order, then the cycle.
use mathlib.Core.Path.{sym, ◌∙◌}
use Rattle.model.proofs.Laws.InRange.{valid_parts, clock_in}
use Rattle.tick.specs.Ticks.{Ticks}
use Rattle.tick.proofs.Checked.{fields_refused, late_refused, ticks, cycle_gives}
use Rattle.tick.proofs.tick.Goals as goal
use Rattle.tick.proofs.tick.Goals.{Else-not-has_time_left}

pub has_time_left-requires : goal.has_time_left-requires
has_time_left-requires c =
    let v = valid_parts _ c.requires.e_value in
    (clock_in _ v.clock, v.steering)

-- the tick that is done: both checks passed
ticking : (c : Else-not-has_time_left) → Ticks c.args.e c.args.c
ticking c =
    ticks _ _ c.requires.e_value c.requires.op_value
    (sym c.tick_fields.ensures ∙ c.if-not-tick_fields.false)
    (sym c.has_time_left.ensures ∙ c.if-not-has_time_left.false)

pub cycle-requires : goal.cycle-requires
cycle-requires c = ticking (goal.at.cycle-requires c).Else-not-has_time_left

pub returns : goal.returns
returns c =
    rw c.cycle.ensures (cycle_gives _ _ (ticking (goal.at.returns c).Else-not-has_time_left))

pub returns-then-not-has_time_left : goal.returns-then-not-has_time_left
returns-then-not-has_time_left c =
    late_refused _ _ c.requires.e_value c.requires.op_value
    (sym c.tick_fields.ensures ∙ c.if-not-tick_fields.false)
    (sym c.has_time_left.ensures ∙ c.if-not-has_time_left.true)

pub returns-then-not-tick_fields : goal.returns-then-not-tick_fields
returns-then-not-tick_fields c =
    fields_refused _ _ c.requires.e_value c.requires.op_value (sym c.tick_fields.ensures ∙ c.if-not-tick_fields.true)
