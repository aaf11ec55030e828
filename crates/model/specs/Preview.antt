-- Op 10, a preview: where the clock would end after an adjust write and so many ticks. Document 02, A.5, "Show before
-- Issue". All of it is done "on a copy", so that the record itself stays.
use Rattle.std.specs.Prelude.{ℕ, List, ◌∷◌, replicate}
use Rattle.model.specs.declared.Engine.{Engine}
use Rattle.model.specs.declared.Command.{Command}
use Rattle.model.specs.declared.Outcome.{Outcome}
use Rattle.model.specs.Tick.{no_inputs, ticks}
use Rattle.model.specs.OtherOps.{adjust_written, read_words}
use Rattle.model.specs.Outcome.{accepted}

-- the preview of a ticks
abbrev pub preview_line : ℕ → Command
preview_line a = record { op = 10; a = a; b = 0; c = 0; d = 0; e = 0; f = 0; g = 0; h = 0 }

-- the copy after "the adjust write from the present words and then a ticks without inputs"
abbrev pub rehearsed : Engine → ℕ → Engine
rehearsed e a = ticks a (adjust_written e)

-- "returns the five TIME words", as a TIME read of the copy would; the record, words included, is unchanged
unfoldable pub previewed : Engine → ℕ → Outcome
previewed e a = accepted (read_words (rehearsed e a) 0) e

-- the same as commands, for the theorem about it: the adjust write without a read, then a ops 0 without inputs; and the
-- TIME read behind them
abbrev pub adjust_write : Command
adjust_write = record { op = 2; a = 2; b = 8; c = 0; d = 0; e = 0; f = 0; g = 0; h = 0 }

abbrev pub rehearsal : ℕ → List Command
rehearsal a = adjust_write ∷ replicate a no_inputs

abbrev pub time_read : Command
time_read = record { op = 2; a = 16; b = 0; c = 0; d = 0; e = 0; f = 0; g = 0; h = 0 }
