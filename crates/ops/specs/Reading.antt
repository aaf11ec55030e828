-- What op 2 asks, and what its read returns. Document 01, "The five words".
use Rattle.std.specs.Prelude.{ℕ, ◌≡◌, true, false, cond, eqb}
use Rattle.model.specs.declared.Engine.{Engine}
use Rattle.model.specs.declared.Command.{Command}
use Rattle.model.specs.declared.Clock.{Clock}
use Rattle.model.specs.declared.Words.{Words}
use Rattle.model.specs.Words.{time_words}
use Rattle.model.specs.Fifo.{is_empty, entry}
use Rattle.model.specs.Record.{fifo}
use Rattle.model.specs.OtherOps.{stamp_words}
use Rattle.model.specs.Ranges.{fifo_ok}
use Rattle.model.specs.Checks.{answer_of}

-- an accepted command of op 2
pub record Commands (e : Engine) (c : Command) : Type 0 where
  pub passed : answer_of e c ≡ 0
  pub op : c.op ≡ 2

-- the FIFO of a selector that is not 0 holds a timestamp
pub record Readable (e : Engine) (selector : ℕ) : Type 0 where
  pub filled : eqb selector 0 ≡ false → is_empty (fifo e selector) ≡ false
  pub ok : fifo_ok (fifo e selector) ≡ true

-- what a read returns, of the record before the write and the clock after it
abbrev pub words_read : Engine → Clock → ℕ → Words
words_read e now selector =
    cond (eqb selector 0)
    (time_words now.seconds now.nanoseconds 0)
    (stamp_words (entry (fifo e selector) 0))
