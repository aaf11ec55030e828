-- A change beside the model: the change to a record, the record that it leaves, how the FIFOs move, and the outcome
-- that all this makes, or a refusal. Document 01, "Command sheet".
use Rattle.std.specs.Prelude.{ℕ, ◌≡◌, Bool, false, ◌&&◌, ◌||◌, not, cond, eqb, Result, Ok, Err}
use Rattle.model.specs.declared.Engine.{Engine}
use Rattle.model.specs.declared.Command.{Command}
use Rattle.model.specs.declared.Outcome.{Outcome}
use Rattle.model.specs.declared.Words.{Words}
use Rattle.model.specs.Clock.{shown}
use Rattle.model.specs.declared.Fifo.{Fifo}
use Rattle.model.specs.Fifo.{is_full, captured, popped}
use Rattle.model.specs.Outcome.{refused, accepted}
use Rattle.model.specs.Record.{with_fifos, fifo, with_fifo}
use Rattle.model.specs.Tick.{tick_step}
use Rattle.model.specs.Checks.{answer_of, reads_fifo}
use Rattle.change.specs.declared.Change.{Change}
use Rattle.change.specs.declared.refusal.Refusal.{Refusal}
use Rattle.change.specs.Refusals.{number_of}

-- every part of a record but its FIFOs
abbrev pub change_to : Words → Engine → Bool → Change
change_to v e moves = record {
  values = v;
  clock = e.clock;
  steering = e.steering;
  generator1 = e.generator1;
  generator2 = e.generator2;
  interrupts = e.interrupts;
  words = e.words;
  moves = moves;
}

-- the record with the parts of a change; its FIFOs stay
abbrev pub applied : Engine → Change → Engine
applied e m = record {
  clock = m.clock;
  steering = m.steering;
  fifo1 = e.fifo1;
  fifo2 = e.fifo2;
  fifo3 = e.fifo3;
  generator1 = m.generator1;
  generator2 = m.generator2;
  interrupts = m.interrupts;
  words = m.words;
}

-- op 0: the timestamps of the inputs are stored
abbrev pub timestamps_stored : Engine → Command → Engine
timestamps_stored e c =
    with_fifos e
    (captured e.fifo1 (shown e.clock) (tick_step e) c.a)
    (captured e.fifo2 (shown e.clock) (tick_step e) c.b)
    (captured e.fifo3 (shown e.clock) (tick_step e) c.c)

-- op 2: the oldest timestamp of a FIFO is taken out
abbrev pub oldest_taken : Engine → ℕ → Engine
oldest_taken e n = with_fifo e n (popped (fifo e n))

abbrev pub fifos_moved : Engine → Command → Engine
fifos_moved e c = cond (eqb c.op 0) (timestamps_stored e c) (oldest_taken e c.b)

-- what a change makes of a record, and what a refusal does
abbrev pub outcome_of : Engine → Command → Result Change Refusal → Outcome
outcome_of e c (Ok m) = accepted m.values (applied (cond m.moves (fifos_moved e c) e) m)
outcome_of e c (Err r) = refused e (number_of r)

-- an input's edge finds a place in its FIFO
abbrev pub stores : Fifo → ℕ → Bool
stores f code = not (eqb code 0 || is_full f)

-- a FIFO moves: an accepted tick stores a timestamp, or an accepted read takes one out
unfoldable pub moves_fifo : Engine → Command → Bool
moves_fifo e c =
    eqb (answer_of e c) 0
    && cond (eqb c.op 0)
    (stores e.fifo1 c.a || (stores e.fifo2 c.b || stores e.fifo3 c.c))
    (reads_fifo c)

-- a FIFO moves by it
abbrev pub moves_of : Result Change Refusal → Bool
moves_of (Ok m) = m.moves
moves_of (Err r) = false

-- the change or the refusal makes this outcome, and says whether a FIFO moves
pub record Gives (e : Engine) (c : Command) (o : Outcome) (r : Result Change Refusal) : Type 0 where
  pub is : outcome_of e c r ≡ o
  pub moving : moves_of r ≡ moves_fifo e c
