-- A tick that is found reads as its line does.
use Rattle.lines.proofs.Ticks.{tick_read}
use mathlib.Core.Path.{sym, ◌∙◌}
use Rattle.lines.proofs.next_line.Goals as goal

pub returns-then-is_tick : goal.returns-then-is_tick
returns-then-is_tick c =
    rw c.command_of.ensures (tick_read c.args.s.now (sym c.if-is_tick.true ∙ c.is_tick.ensures))
