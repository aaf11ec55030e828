-- A line that is passed leaves the verdict to those behind it, so the verdict on the lines left always is the verdict
-- on all.
use Rattle.std.proofs.Common.{length}
use Rattle.sheet.proofs.Body.{Left}
use Rattle.sheet.proofs.check_body.Given as goal

abbrev pub invariant-loop-rest : goal.invariant-loop-rest
invariant-loop-rest l = Left l.s l.rest l.line

abbrev pub decreases-loop-rest : goal.decreases-loop-rest
decreases-loop-rest l = length l.rest
