-- The part that is handed on is a line just where the text up to its first line end is one, and then it is this text.
use mathlib.Core.Path.{refl}
use Rattle.lines.proofs.LineParts.{part_cut, part_whole}
use Rattle.lines.proofs.read.Goals as goal

pub returns-then-s-end : goal.returns-then-s-end
returns-then-s-end c =
    let cut = rw c.line_in-part.ensures at c.if-s-end.true in
    rw c.line_in-part.ensures (record { line = part_cut c.args.s.now cut; end = refl })

pub returns : goal.returns
returns c =
    let whole = rw c.line_in-part.ensures at c.if-s-end.false in
    rw (c.read_line.ensures, c.line_in-part.ensures) (record { line = part_whole c.args.s.now whole; end = refl })
