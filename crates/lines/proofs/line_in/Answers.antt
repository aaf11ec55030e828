-- The part runs on to the first line end behind 17 bytes.
use Rattle.text.proofs.Laws.FirstPart.{rest_is}
use Rattle.lines.proofs.LineParts.{part_run}
use Rattle.lines.proofs.line_in.Goals as goal

pub returns : goal.returns
returns c = part_run c.args.s.now _ (rw (rest_is c.args.s.now 17) at c.run_length-end.ensures).is
