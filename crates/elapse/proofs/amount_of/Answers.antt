-- In each phase few cycles bring a small amount.
use Prim.Native.Nat.{◌-◌}
use native.Mathlib.Omega.{arith}
use Rattle.model.proofs.Laws.InRange.{steering_in}
use Rattle.elapse.proofs.Numbers.{adjustment_low, phase_low}
use Rattle.elapse.proofs.amount_of.Goals as goal

pub overflow_mul-result-2 : goal.overflow_mul-result-2
overflow_mul-result-2 c =
    let small = (adjustment_low c.args.s.waiting (steering_in c.args.s c.requires.0).waiting).1 in
    omega (arith, phase_low c.min-second.result c.args.s.waiting.amount (omega arith) small)

pub overflow_mul-result-3 : goal.overflow_mul-result-3
overflow_mul-result-3 c =
    let small = (steering_in c.args.s c.requires.0).period.high in
    omega (arith, phase_low (c.args.n - c.min-first.result - c.min-second.result) c.args.s.period (omega arith) small)
