-- One division, by the amount of the phase that reaches the need.
use native.Mathlib.Omega.{arith}
use Rattle.model.proofs.Laws.InRange.{steering_in}
use Rattle.elapse.proofs.Numbers.{product_fits}
use Rattle.reach.proofs.Sizes.{few_waiting, few_after}
use Rattle.reach.proofs.cycles_to.Goals as goal

pub overflow_mul-first : goal.overflow_mul-first
overflow_mul-first c = omega (arith, product_fits _ (steering_in _ c.requires.0).running)

pub overflow_mul-second : goal.overflow_mul-second
overflow_mul-second c = omega (arith, product_fits _ (steering_in _ c.requires.0).waiting)

pub overflow_add-result-then-rest-second : goal.overflow_add-result-then-rest-second
overflow_add-result-then-rest-second c =
    omega (arith, few_waiting c.args.s c.requires.0 c.args.need c.if-need-first.false c.if-rest-second.true)

pub overflow_add-result-then-rest-second-2 : goal.overflow_add-result-then-rest-second-2
overflow_add-result-then-rest-second-2 c =
    omega (arith, few_waiting c.args.s c.requires.0 c.args.need c.if-need-first.false c.if-rest-second.true)

pub overflow_add-result-2 : goal.overflow_add-result-2
overflow_add-result-2 c = omega (arith, few_after c.args.s c.requires.0 c.args.need c.ranges.need.fits)

pub nonzero_div-result-2 : goal.nonzero_div-result-2
nonzero_div-result-2 c = omega (arith, (steering_in _ c.requires.0).period.low)

pub overflow_add-result-3 : goal.overflow_add-result-3
overflow_add-result-3 c = omega (arith, few_after c.args.s c.requires.0 c.args.need c.ranges.need.fits)

pub overflow_add-result-4 : goal.overflow_add-result-4
overflow_add-result-4 c = omega (arith, few_after c.args.s c.requires.0 c.args.need c.ranges.need.fits)
