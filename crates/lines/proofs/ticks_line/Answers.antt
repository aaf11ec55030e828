-- The number behind the op is that of a row, which reads as its command.
use borrow.Author.Rules.{rules}
use lib.ListN.{drop}
use Rattle.text.proofs.Laws.FirstPart.{rest_is}
use Rattle.tick_lines.specs.AtOnce.{TicksIn}
use Rattle.lines.proofs.TicksRead.{ticks_inside, ticks_begun}
use Rattle.lines.proofs.ticks_line.Goals as goal
use Rattle.lines.proofs.ticks_line.Goals.{In_ok-ticks}

found : (c : In_ok-ticks) → TicksIn (drop c.in_ok-begun.begun.from c.args.s.now) c.in_ok-ticks.ticks c.in_ok-ticks.end
found c = rw (rest_is c.args.s.now c.in_ok-begun.begun.from) at c.in_ok-ticks.ensures

pub overflow_add-result : goal.overflow_add-result
overflow_add-result c =
    let run = found (goal.at.overflow_add-result c).In_ok-ticks in
    let inside = ticks_inside c.args.s.now c.in_ok-begun.begun c.in_ok-begun.ensures run in
    search rules

pub returns : goal.returns
returns c =
    rw c.command_of.ensures
    (ticks_begun c.args.s.now c.in_ok-begun.begun c.in_ok-begun.ensures (found (goal.at.returns c).In_ok-ticks))
