-- Op 0, a tick: one reference cycle, in which every part moves at once, each worked out from the record before it.
-- Document 01, "The clock", "Stamps and generators" and "Command sheet".
use Rattle.std.specs.Prelude.{ℕ, zero, suc, ◌+◌, List, [], ◌∷◌, ◌++◌, Bool, true, ◌&&◌, ltb}
use Rattle.model.specs.declared.Engine.{Engine}
use Rattle.model.specs.declared.Command.{Command}
use Rattle.model.specs.declared.Fifo.{Fifo}
use Rattle.model.specs.declared.Generator.{Generator}
use Rattle.model.specs.declared.Words.{Words}
use Rattle.model.specs.Words.{five}
use Rattle.model.specs.Clock.{shown, end_of_time, cycle_amount, step_by, ticked, last_cycle, steering_after}
use Rattle.model.specs.Fifo.{captured, captures_first, overflows}
use Rattle.model.specs.Generator.{placed, generated, completes_event, completes_sequence}
use Rattle.model.specs.Interrupts.{positions, latch}

-- the step of a tick on this record
abbrev pub tick_step : Engine → ℕ
tick_step e = step_by e.clock (cycle_amount e.steering)

-- the time shown after it is not past the last second
abbrev pub ends_in_time : Engine → Bool
ends_in_time e = ltb (shown e.clock + tick_step e) end_of_time

-- EC and SC of a generator in a tick of step s from the time shown a
abbrev pub output_events : Generator → ℕ → ℕ → List Bool
output_events g a s = completes_event g a s ∷ completes_sequence g a s ∷ []

-- NE and OF of a timestamp FIFO whose input has this code
abbrev pub input_events : Fifo → ℕ → List Bool
input_events f code = captures_first f code ∷ overflows f code ∷ []

-- which events a tick brings, in the order of the table of bit positions
unfoldable pub tick_events : Engine → Command → List Bool
tick_events e c =
    last_cycle e.steering.adjustment
    ∷ output_events e.generator1 (shown e.clock) (tick_step e)
    ++ output_events e.generator2 (shown e.clock) (tick_step e)
    ++ input_events e.fifo1 c.a
    ++ input_events e.fifo2 c.b
    ++ input_events e.fifo3 c.c

-- the record after a tick of step S from the time shown A
unfoldable pub tick_engine : Engine → Command → Engine
tick_engine e c = record {
  clock = ticked e.clock (cycle_amount e.steering);
  steering = steering_after e.steering;
  fifo1 = captured e.fifo1 (shown e.clock) (tick_step e) c.a;
  fifo2 = captured e.fifo2 (shown e.clock) (tick_step e) c.b;
  fifo3 = captured e.fifo3 (shown e.clock) (tick_step e) c.c;
  generator1 = generated e.generator1 (shown e.clock) (tick_step e);
  generator2 = generated e.generator2 (shown e.clock) (tick_step e);
  interrupts = record {
    latched = latch positions (tick_events e c) e.interrupts.latched;
    enabled = e.interrupts.enabled;
  };
  words = e.words;
}

-- v1 and v2 are the codes of generators 1 and 2
unfoldable pub tick_values : Engine → Words
tick_values e =
    five
    (placed e.generator1 (shown e.clock) (tick_step e))
    (placed e.generator2 (shown e.clock) (tick_step e))
    0 0 0

-- op 0 without inputs
abbrev pub no_inputs : Command
no_inputs = record { op = 0; a = 0; b = 0; c = 0; d = 0; e = 0; f = 0; g = 0; h = 0 }

-- the record after n ticks without inputs
unfoldable pub ticks : ℕ → Engine → Engine
ticks zero e = e
ticks (suc n) e = tick_engine (ticks n e) no_inputs

-- each of the next n ticks without inputs ends in time
unfoldable pub in_time_for : ℕ → Engine → Bool
in_time_for zero e = true
in_time_for (suc n) e = ends_in_time e && in_time_for n (tick_engine e no_inputs)
