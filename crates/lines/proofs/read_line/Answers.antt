-- The front is that of the line, and what is read behind it is its last part.
use mathlib.Core.Path.{sym, ◌∙◌}
use borrow.Author.Rules.{rules}
use Rattle.text.proofs.Laws.FirstPart.{rest_is}
use Rattle.lines.proofs.Lines.{line_no_front, front_inside, line_last, line_no_last}
use Rattle.lines.proofs.read_line.Goals as goal

pub returns-in_default : goal.returns-in_default
returns-in_default c = line_no_front c.args.s.now c.in_default.ensures

pub slice_bounds-read_value-count : goal.slice_bounds-read_value-count
slice_bounds-read_value-count c = front_inside c.args.s.now c.in-Ok.ensures

pub slice_bounds-read_value-start : goal.slice_bounds-read_value-start
slice_bounds-read_value-start c = let inside = front_inside c.args.s.now c.in-Ok.ensures in search rules

pub returns-in_err-numbers : goal.returns-in_err-numbers
returns-in_err-numbers c =
    let read = rw (rest_is c.args.s.now c.in-Ok.at) at c.in_err-numbers.ensures in
    c.from_residual.ensures ∙ line_no_last c.args.s.now c.in-Ok.ensures (sym read)

pub returns : goal.returns
returns c =
    let read = rw (rest_is c.args.s.now c.in-Ok.at) at c.in_ok-numbers.ensures in
    rw c.command_of.ensures (line_last c.args.s.now c.in-Ok.ensures (sym read))
