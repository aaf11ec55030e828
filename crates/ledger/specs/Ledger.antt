-- The ledger of demand 3, as document 01 has it under that heading: an account kept beside the engine, that never looks
-- into the record. What it holds, by subject, and its steps. Times and amounts are in ns. The adjust write that waits
-- is document 02's, A.4.
use Rattle.std.specs.Prelude.{ℕ, zero, suc, ◌+◌, ◌*◌, ◌-◌, ◌^◌, List, [], ◌∷◌, ◌++◌, cond, eqb, get_or}
use Rattle.model.specs.declared.Command.{Command}
use Rattle.model.specs.declared.Words.{Words}
use Rattle.model.specs.Units.{ns_per_second}
use Rattle.model.specs.Words.{no_words, seconds_in, nanoseconds_in, amount_in, count_in}
use Rattle.ledger.specs.Fractions.{Fraction, over, plus}

-- an adjust write that waits: none, or its PER_ADJ and its cycles (document 02, A.4)
pub data Waiting : Type 0 where
  none_waits : Waiting
  waits : Fraction → ℕ → Waiting

-- PERIOD, PER_ADJ, the adjust cycles owed, and the adjust write that waits
pub record LedgerSteering : Type 0 where
  pub period : Fraction
  pub adjust : Fraction
  pub owed : ℕ
  pub waiting : Waiting

-- a generator's order: none, or a start, an interval and a count
pub data Order : Type 0 where
  none : Order
  standing : Fraction → Fraction → ℕ → Order

-- an edge as a tick returned it, with the exact time and the amount at that tick
pub record Edge : Type 0 where
  pub rising : ℕ
  pub eighth : ℕ
  pub time : Fraction
  pub amount : Fraction

-- a generator's order, and the edges returned for it since the order began; or since the last one ended, or since
-- power-on, where there is none
pub record Train : Type 0 where
  pub order : Order
  pub edges : List Edge

-- "the ledger": words, exact time, steering, the orders of generators 1 and 2
pub record Ledger : Type 0 where
  pub words : Words
  pub time : Fraction
  pub steering : LedgerSteering
  pub train1 : Train
  pub train2 : Train

-- an order begins, or ends: no edge has been returned since
abbrev pub opened : Order → Train
opened o = record { order = o; edges = [] }

-- at power-on
unfoldable pub open_ledger : Ledger
open_ledger = record {
  words = no_words;
  time = over 0 1;
  steering = record { period = over 8 1; adjust = over 0 1; owed = 0; waiting = none_waits };
  train1 = opened none;
  train2 = opened none;
}

-- the amount ordered for the next cycle: PER_ADJ where cycles are owed, else PERIOD
abbrev pub next_amount : LedgerSteering → Fraction
next_amount s = cond (eqb s.owed 0) s.period s.adjust

-- the write that waits "becomes PER_ADJ and the cycles owed when a tick takes the last one" (document 02, A.4)
abbrev pub turn_of : Waiting → LedgerSteering → LedgerSteering
turn_of none_waits s = record { period = s.period; adjust = s.adjust; owed = 0; waiting = none_waits }
turn_of (waits amount count) s = record { period = s.period; adjust = amount; owed = count; waiting = none_waits }

-- where cycles are owed, a tick takes one off
abbrev pub cycle_taken : LedgerSteering → LedgerSteering
cycle_taken s =
    cond (eqb s.owed 1)
    (turn_of s.waiting s)
    (record { period = s.period; adjust = s.adjust; owed = s.owed - 1; waiting = s.waiting })

-- op 0: the amount ordered is added to the exact time
abbrev pub ledger_ticked : Ledger → Ledger
ledger_ticked l = record {
  words = l.words;
  time = plus l.time (next_amount l.steering);
  steering = cycle_taken l.steering;
  train1 = l.train1;
  train2 = l.train2;
}

-- op 0's step n times
unfoldable pub ledger_ticks : ℕ → Ledger → Ledger
ledger_ticks zero l = l
ledger_ticks (suc n) l = ledger_ticked (ledger_ticks n l)

-- edges that were returned for generators 1 and 2
abbrev pub returning : Train → List Edge → Train
returning t edges = record { order = t.order; edges = t.edges ++ edges }

abbrev pub ledger_edges : Ledger → List Edge → List Edge → Ledger
ledger_edges l edges1 edges2 = record {
  words = l.words;
  time = l.time;
  steering = l.steering;
  train1 = returning l.train1 edges1;
  train2 = returning l.train2 edges2;
}

abbrev pub ledger_words : Ledger → Words → Ledger
ledger_words l w =
    record { words = w; time = l.time; steering = l.steering; train1 = l.train1; train2 = l.train2 }

-- op 2, the write, read from the ledger's words: TIME ends both orders
abbrev pub ledger_time : Ledger → Ledger
ledger_time l = record {
  words = l.words;
  time = over (seconds_in l.words * ns_per_second + nanoseconds_in l.words) 1;
  steering = l.steering;
  train1 = opened none;
  train2 = opened none;
}

abbrev pub ledger_steering : Ledger → LedgerSteering → Ledger
ledger_steering l s =
    record { words = l.words; time = l.time; steering = s; train1 = l.train1; train2 = l.train2 }

abbrev pub amount_written : Ledger → Fraction
amount_written l = over (amount_in l.words) (2 ^ 32)

abbrev pub ledger_period : Ledger → Ledger
ledger_period l =
    ledger_steering l
    (record {
      period = amount_written l;
      adjust = l.steering.adjust;
      owed = l.steering.owed;
      waiting = l.steering.waiting;
    })

-- "an adjust write waits while cycles are owed" (document 02, A.4)
abbrev pub adjust_told : LedgerSteering → Fraction → ℕ → LedgerSteering
adjust_told s amount count =
    cond (eqb s.owed 0)
    (record { period = s.period; adjust = amount; owed = count; waiting = s.waiting })
    (record { period = s.period; adjust = s.adjust; owed = s.owed; waiting = waits amount count })

abbrev pub ledger_adjust : Ledger → Ledger
ledger_adjust l = ledger_steering l (adjust_told l.steering (amount_written l) (count_in l.words))

-- the writes by their selector, from 0; any other selector writes nothing
abbrev pub ledger_writings : List (Ledger → Ledger)
ledger_writings = ledger_time ∷ ledger_period ∷ ledger_adjust ∷ []

unfoldable pub ledger_written : Ledger → ℕ → Ledger
ledger_written l selector = get_or ledger_writings selector (λ l. l) l

-- op 2: the write first; then, on a read, the words become v1 to v5
unfoldable pub ledger_commanded : Ledger → ℕ → ℕ → Words → Ledger
ledger_commanded l write read values =
    cond (eqb read 8) (ledger_written l write) (ledger_words (ledger_written l write) values)

-- ops 3 and 4: generator n's order becomes another, or ends
abbrev pub ledger_order : Ledger → ℕ → Order → Ledger
ledger_order l n o = record {
  words = l.words;
  time = l.time;
  steering = l.steering;
  train1 = cond (eqb n 1) (opened o) l.train1;
  train2 = cond (eqb n 1) l.train2 (opened o);
}

-- op 3: start b s c ns, interval d + e/f ns, count g
abbrev pub order_of : Command → Order
order_of c = standing (over (c.b * ns_per_second + c.c) 1) (plus (over c.d 1) (over c.e c.f)) c.g
