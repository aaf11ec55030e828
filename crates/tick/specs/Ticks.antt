-- A tick that passed its checks, and what it makes of the two generators and of the three inputs. Document 01,
-- "Stamps and generators".
use Rattle.std.specs.Prelude.{ℕ, ◌≡◌, Bool, ◌||◌, Option}
use Rattle.model.specs.declared.Generator.{Generator}
use Rattle.model.specs.declared.Engine.{Engine}
use Rattle.model.specs.declared.Command.{Command}
use Rattle.model.specs.Words.{five}
use Rattle.model.specs.Checks.{answer_of}
use Rattle.fifo.specs.Capture.{arrival_of, is_stored, is_first, is_dropped}
use Rattle.generator.specs.declared.Edge.{Edge}
use Rattle.generator.specs.Advance.{advance_of, code_of, after, event_of, sequence_of}
use Rattle.interrupts.specs.declared.Source.{Source}
use Rattle.interrupts.specs.declared.Source.TheVariants.{P1Ec, P1Sc, P2Ec, P2Sc, Ts1Ne, Ts1Of, Ts2Ne, Ts2Of, Ts3Ne}
use Rattle.interrupts.specs.declared.Source.TheVariants.{Ts3Of}
use Rattle.interrupts.specs.Position.{latch_two}
use Rattle.tick.specs.declared.Output.{Output}
use Rattle.tick.specs.declared.Outputs.{Outputs}
use Rattle.tick.specs.declared.Inputs.{Inputs}

-- an accepted command of op 0
pub record Ticks (e : Engine) (c : Command) : Type 0 where
  pub passed : answer_of e c ≡ 0
  pub op : c.op ≡ 0

-- what an edge makes of its generator; its events are latched behind what is latched already
abbrev pub output_of : Option Edge → Generator → ℕ → Source → Source → Output
output_of edge g latched ec sc = record {
  code = code_of edge;
  generator = after g edge;
  latched = latch_two ec (event_of edge) sc (sequence_of edge) latched;
}

-- what a tick of step s from the time shown a makes of two generators
unfoldable pub outputs_of : Generator → Generator → ℕ → ℕ → ℕ → Outputs
outputs_of generator1 generator2 a s latched =
    let one = advance_of generator1 a s in
    let two = advance_of generator2 a s in
    record {
      values = five (code_of one) (code_of two) 0 0 0;
      generator1 = after generator1 one;
      generator2 = after generator2 two;
      latched =
          latch_two P2Ec (event_of two) P2Sc (sequence_of two)
          (latch_two P1Ec (event_of one) P1Sc (sequence_of one) latched);
    }

-- some input's edge is stored
abbrev pub stores_any : Engine → Command → Bool
stores_any e c =
    is_stored (arrival_of e.fifo1 c.a)
    || (is_stored (arrival_of e.fifo2 c.b) || is_stored (arrival_of e.fifo3 c.c))

unfoldable pub inputs_of : Engine → Command → ℕ → Inputs
inputs_of e c latched =
    let one = arrival_of e.fifo1 c.a in
    let two = arrival_of e.fifo2 c.b in
    let three = arrival_of e.fifo3 c.c in
    record {
      stored = stores_any e c;
      latched =
          latch_two Ts3Ne (is_first three) Ts3Of (is_dropped three)
          (latch_two Ts2Ne (is_first two) Ts2Of (is_dropped two)
          (latch_two Ts1Ne (is_first one) Ts1Of (is_dropped one) latched));
    }
