-- The two checks of a run line in the table's order, as a tick makes them, then the run.
use mathlib.Core.Path.{sym, ◌∙◌}
use Rattle.model.proofs.Laws.InRange.{valid_parts, clock_in}
use Rattle.run.proofs.Checked.{fields_refused, late_refused, run_gives, few_ticks}
use Rattle.run.proofs.run.Goals as goal

pub has_time_left-requires : goal.has_time_left-requires
has_time_left-requires c =
    let v = valid_parts _ c.requires.e_value in
    (clock_in _ v.clock, v.steering)

pub run_within-requires : goal.run_within-requires
run_within-requires c =
    (c.requires.e_value, few_ticks c.args.c (sym c.run_fields.ensures ∙ c.if-not-run_fields.false))

pub returns : goal.returns
returns c =
    rw c.run_within.ensures
    (run_gives _ _ c.requires.e_value c.requires.op_value
    (sym c.run_fields.ensures ∙ c.if-not-run_fields.false)
    (sym c.has_time_left.ensures ∙ c.if-not-has_time_left.false))

pub returns-then-not-has_time_left : goal.returns-then-not-has_time_left
returns-then-not-has_time_left c =
    late_refused _ _ c.requires.e_value c.requires.op_value
    (sym c.run_fields.ensures ∙ c.if-not-run_fields.false)
    (sym c.has_time_left.ensures ∙ c.if-not-has_time_left.true)

pub returns-then-not-run_fields : goal.returns-then-not-run_fields
returns-then-not-run_fields c =
    fields_refused _ _ c.requires.e_value c.requires.op_value (sym c.run_fields.ensures ∙ c.if-not-run_fields.true)
