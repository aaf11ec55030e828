-- With no code there is no edge, and nothing is latched.
use mathlib.Core.Path.{refl}
use Rattle.tick.specs.Ticks.{inputs_of}
use Rattle.fifo.specs.Capture.{arrival_of}
use Rattle.interrupts.specs.Position.{latch_one, latch_two}
use Rattle.tick.proofs.arrive_inputs.Goals as goal

pub returns-then-c-eq0-3 : goal.returns-then-c-eq0-3
unfolding inputs_of arrival_of latch_one latch_two
returns-then-c-eq0-3 c = rw (c.if-c-eq0.true, c.if-c-eq0-2.true, c.if-c-eq0-3.true) refl
