-- Each turn writes the line of the next command, so the lines written and those of the commands left are all of them.
use lib.ListN.{length}
use Rattle.runner.proofs.Turns.{RanTo}
use Rattle.runner.proofs.put_results.Given as goal

abbrev pub invariant-loop-command : goal.invariant-loop-command
invariant-loop-command l = RanTo l.s l.rest l.fn.writer l.writer l.e l.line

abbrev pub decreases-loop-command : goal.decreases-loop-command
decreases-loop-command l = length l.rest
