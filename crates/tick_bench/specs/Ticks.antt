-- Ticks on an engine that runs trains and adjustments, for the benchmark. Counts and input codes come from the caller,
-- so that a compiler cannot work them out beforehand; with counts of 0 the engine is idle.
use Rattle.std.specs.Prelude.{ℕ, zero, suc, ◌≡◌, true, false, List, [], ◌∷◌, eqb}
use Rattle.std.specs.Int.Bits.{bit_or}
use Rattle.model.specs.declared.Engine.{Engine}
use Rattle.model.specs.declared.Command.{Command}
use Rattle.model.specs.declared.Outcome.{Outcome}
use Rattle.model.specs.Ranges.{valid}
use Rattle.model.specs.Checks.{reads_fifo}
use Rattle.model.specs.Execute.{execute}
use Rattle.model.specs.Run.{engine_after}
use Rattle.text.specs.Sheet.{command_of}
use Rattle.tick_bench.specs.declared.Run.{Run}

-- a command that moves no FIFO, on a valid record
pub record Still (e : Engine) (c : Command) : Type 0 where
  pub on : valid e ≡ true
  pub no_tick : eqb c.op 0 ≡ false
  pub reads_none : reads_fifo c ≡ false

-- the record after it, valid again
pub record Gave (e : Engine) (c : Command) (r : Engine) : Type 0 where
  pub is : r ≡ (execute e c).engine
  pub keeps : valid r ≡ true

-- so many cycles of 7.5 ns (COUNT 15:0), and two trains of so many marked edges
abbrev pub beforehand : ℕ → ℕ → List Command
beforehand cycles edges =
    command_of (1 ∷ 0 ∷ cycles ∷ 0 ∷ 0 ∷ 1920 ∷ 0 ∷ 0 ∷ 0 ∷ [])
    ∷ command_of (2 ∷ 2 ∷ 8 ∷ 0 ∷ 0 ∷ 0 ∷ 0 ∷ 0 ∷ 0 ∷ [])
    ∷ command_of (3 ∷ 1 ∷ 0 ∷ 3 ∷ 256 ∷ 1 ∷ 3 ∷ edges ∷ 1 ∷ [])
    ∷ command_of (3 ∷ 2 ∷ 0 ∷ 5 ∷ 300 ∷ 6 ∷ 7 ∷ edges ∷ 1 ∷ [])
    ∷ []

-- a tick with one code on each input
abbrev pub tick_of : ℕ → Command
tick_of code = command_of (0 ∷ code ∷ code ∷ code ∷ 0 ∷ 0 ∷ 0 ∷ 0 ∷ 0 ∷ [])

-- the bits of what was told so far, and of one more answer and its two codes
abbrev pub told_by : ℕ → Outcome → ℕ
told_by told o = bit_or (bit_or (bit_or told o.answer) o.values.w1) o.values.w2

-- one command, so many times: the record after them, and what was told with what was told before
unfoldable pub ticks : Command → ℕ → Run → Run
ticks c zero t = t
ticks c (suc n) t = ticks c n (record {
  engine = (execute t.engine c).engine;
  told = told_by t.told (execute t.engine c);
})

-- what so many give, on a valid record again
pub record TicksTo (from : Run) (c : Command) (n : ℕ) (r : Run) : Type 0 where
  pub is : r ≡ ticks c n from
  pub keeps : valid r.engine ≡ true

-- the commands given, nothing told yet
abbrev pub start_of : ℕ → ℕ → Run
start_of cycles edges = record { engine = engine_after (beforehand cycles edges); told = 0 }

-- the nanoseconds shown, with the bits of all that was told
abbrev pub seen : Run → ℕ
seen t = bit_or t.engine.clock.nanoseconds t.told
