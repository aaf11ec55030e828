-- What each op but the tick does. Document 01, "Command sheet" and "The five words".
use Rattle.std.specs.Prelude.{ℕ, List, [], ◌∷◌, cond, eqb, get_or}
use Rattle.model.specs.declared.Engine.{Engine}
use Rattle.model.specs.declared.Command.{Command}
use Rattle.model.specs.declared.Outcome.{Outcome}
use Rattle.model.specs.declared.Words.{Words}
use Rattle.model.specs.declared.Adjustment.{Adjustment}
use Rattle.model.specs.declared.Generator.{Generator}
use Rattle.model.specs.declared.Timestamp.{Timestamp}
use Rattle.model.specs.Words.{five, no_words, seconds_in, nanoseconds_in, amount_in, count_in, time_words}
use Rattle.model.specs.Clock.{clock_set, adjusted_by}
use Rattle.model.specs.Fifo.{entry, popped, is_empty}
use Rattle.model.specs.Generator.{idle_generator}
use Rattle.model.specs.Interrupts.{interrupt_word, status_word}
use Rattle.model.specs.Record.{with_clock, with_steering, with_generators, with_interrupts, with_words}
use Rattle.model.specs.Record.{fifo, with_fifo}
use Rattle.model.specs.Outcome.{accepted}

-- op 1
abbrev pub loaded_words : Command → Words
loaded_words c = five c.a c.b c.c c.d c.e

-- op 2, the write. TIME clears fraction and remainder and stops both generators; the steering, both adjustments
-- included (document 02, A.4), and the stored timestamps remain
abbrev pub time_written : Engine → Engine
time_written e =
    with_generators
    (with_clock e (clock_set (seconds_in e.words) (nanoseconds_in e.words)))
    idle_generator idle_generator

abbrev pub period_written : Engine → Engine
period_written e =
    with_steering e
    (record {
      period = amount_in e.words;
      adjustment = e.steering.adjustment;
      waiting = e.steering.waiting;
    })

abbrev pub adjustment_in : Words → Adjustment
adjustment_in w = record { amount = amount_in w; cycles = count_in w }

abbrev pub adjust_written : Engine → Engine
adjust_written e = with_steering e (adjusted_by e.steering (adjustment_in e.words))

-- the writes by their selector, from 0; any other selector writes nothing
abbrev pub writings : List (Engine → Engine)
writings = time_written ∷ period_written ∷ adjust_written ∷ []

unfoldable pub written : Engine → ℕ → Engine
written e selector = get_or writings selector (λ e. e) e

abbrev pub stamp_words : Timestamp → Words
stamp_words t = time_words t.seconds t.nanoseconds t.rising

-- op 2, the read: the time shown, or the oldest timestamp of a FIFO
unfoldable pub read_words : Engine → ℕ → Words
read_words e selector =
    cond (eqb selector 0)
    (time_words e.clock.seconds e.clock.nanoseconds 0)
    (stamp_words (entry (fifo e selector) 0))

-- a read replaces the five words, and a read of a FIFO takes the oldest timestamp out
unfoldable pub read_engine : Engine → ℕ → Engine
read_engine e selector =
    with_words
    (cond (eqb selector 0) e (with_fifo e selector (popped (fifo e selector))))
    (read_words e selector)

-- op 2: the write goes before the read
unfoldable pub commanded : Engine → ℕ → ℕ → Outcome
commanded e write read =
    cond (eqb read 8)
    (accepted no_words (written e write))
    (accepted (read_words (written e write) read) (read_engine (written e write) read))

-- op 3
abbrev pub armed_by : Command → Generator
armed_by c = record {
  pending = record { seconds = c.b; nanoseconds = c.c; remainder = 0 };
  whole = c.d;
  numerator = c.e;
  denominator = c.f;
  left = c.g;
  direction = 0;
  mark = c.h;
}

abbrev pub just_first : ℕ → Words
just_first v = five v 0 0 0 0

-- op 5: the bits are returned, then all cleared
unfoldable pub interrupts_read : Engine → Outcome
interrupts_read e =
    accepted (just_first (interrupt_word e.interrupts.latched e.interrupts.enabled))
    (with_interrupts e (record { latched = 0; enabled = e.interrupts.enabled }))

-- op 6
abbrev pub mask_set : Engine → ℕ → Engine
mask_set e mask = with_interrupts e (record { latched = e.interrupts.latched; enabled = mask })

-- op 7
unfoldable pub status_of : Engine → ℕ
status_of e = status_word (is_empty e.fifo1) (is_empty e.fifo2) (is_empty e.fifo3)
