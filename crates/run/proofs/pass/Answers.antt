-- Every part of the record is the formula's: the exact time, cut at the second shown, gains what the cycles bring.
use native.Mathlib.Omega.{arith}
use Rattle.model.specs.Elapse.{elapsed}
use Rattle.model.proofs.Laws.InRange.{valid_parts, clock_in}
use Rattle.interrupts.specs.Position.{latch_one}
use Rattle.elapse.proofs.Numbers.{amount_low, from_second}
use Rattle.run.proofs.pass.Goals as goal

pub steer_by-requires : goal.steer_by-requires
steer_by-requires c = (valid_parts _ c.requires.starting.on).steering

pub overflow_add-span : goal.overflow_add-span
overflow_add-span c =
    let p = c.requires in
    let v = valid_parts _ p.starting.on in
    let k = clock_in _ v.clock in
    let low = amount_low _ v.steering _ p.starting.few in
    let here = rw p.clock_value at c.args.span.in_time.in_here in
    omega (arith, here, p.amount_value)

pub clock_at-requires : goal.clock_at-requires
clock_at-requires c =
    let p = c.requires in
    let v = valid_parts _ p.starting.on in
    let k = clock_in _ v.clock in
    let low = amount_low _ v.steering _ p.starting.few in
    (k.seconds, omega (arith, c.args.span.in_time.in_here, p.amount_value))

pub returns : goal.returns
unfolding elapsed latch_one
returns c =
    let p = c.requires in
    let rest = c.default.ensures in
    simp (
      c.change_to.ensures,
      rest.0,
      rest.1.0,
      rest.1.1.1.1,
      c.clock_at.ensures,
      c.steer_by.ensures,
      c.latch.ensures,
      c.ends_within-ended.ensures,
      c.args.span.in_time.in_here,
      p.clock_value,
      p.amount_value,
      from_second,
    )
