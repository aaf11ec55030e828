-- Where none runs none waits, so that the steering stays.
use mathlib.Core.Path.{sym}
use Rattle.model.proofs.Laws.InRange.{steering_in}
use Rattle.model.proofs.Laws.Phases.{steering_still}
use Rattle.elapse.proofs.steer_by.Goals as goal

pub returns-then-s-eq0 : goal.returns-then-s-eq0
returns-then-s-eq0 c =
    sym (steering_still c.args.s (steering_in c.args.s c.requires) c.if-s-eq0.true c.args.n)
