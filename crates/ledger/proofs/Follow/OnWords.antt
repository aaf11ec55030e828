-- Accepted ops 1 and 2: the ledger reads the same words by the same table, and takes a read's values for its words.
use Prim.Native.Nat.{ℕ, ◌+◌, ◌*◌, ◌^◌}
use mathlib.Core.Path.{◌≡◌, ap}
use mathlib.Core.Bool.{Bool, true, false, cond}
use native.Mathlib.Omega.{arith}
use lib.Dec.{eqb}
use lib.ListN.{get_or-eq_default}
use Rattle.model.specs.declared.Engine.{Engine}
use Rattle.model.specs.declared.Command.{Command}
use Rattle.model.specs.declared.Adjustment.{Adjustment}
use Rattle.model.specs.declared.Steering.{Steering}
use Rattle.model.specs.declared.Words.{Words}
use Rattle.model.specs.declared.Outcome.{Outcome}
use Rattle.model.specs.Units.{ns_per_second}
use Rattle.model.specs.Words.{no_words, seconds_in, nanoseconds_in, amount_in, count_in}
use Rattle.model.specs.Clock.{exact, adjusted_by, clock_set}
use Rattle.model.specs.Fifo.{popped}
use Rattle.model.specs.Record.{with_words, fifo, with_fifo}
use Rattle.model.specs.Outcome.{accepted}
use Rattle.model.specs.OtherOps.{loaded_words, time_written, period_written, adjustment_in, adjust_written, written}
use Rattle.model.specs.OtherOps.{read_words, read_engine, commanded}
use Rattle.ledger.specs.Fractions.{over}
use Rattle.ledger.specs.Ledger
use Rattle.ledger.specs.Ledger.{LedgerSteering, Ledger}
use Rattle.ledger.specs.Bookings.{booked, told}
use Rattle.model.proofs.Laws.Testing.{split}
use Rattle.model.proofs.Laws.Accepting.{by_write, commanded_accepted}
use Rattle.ledger.proofs.Laws.FractionValues.{Is, is_over, is_finer}
use Rattle.ledger.proofs.Follow.Agrees.{Steers, Agrees, after}

-- new words on both sides
words_agree : (e : Engine) (l : Ledger) (w : Words) → Agrees e l → Agrees (with_words e w) (Ledger.ledger_words l w)
words_agree e l w h = search

-- op 1
pub load_agrees : (e : Engine) (l : Ledger) (c : Command) → Agrees e l → c.op ≡ 1
    → Agrees (with_words e (loaded_words c)) (after l c (accepted no_words (with_words e (loaded_words c))))
unfolding told booked
load_agrees e l c h o = rw o (words_agree e l (loaded_words c) h)

-- op 2, the write
module _ (e : Engine) (l : Ledger) (h : Agrees e l) where
  -- a time of whole ns
  whole_ns : (s n : ℕ) → Is (over (s * ns_per_second + n) 1) (exact (clock_set s n)) (2 ^ 32)
  whole_ns s n =
      let x : (s * ns_per_second + n) * 4294967296 ≡ exact (clock_set s n) = omega arith in
      rw x at (is_finer 4294967296 (omega arith) (is_over (s * ns_per_second + n) 1 (omega arith)))

  time_agrees : Agrees (time_written e) (Ledger.ledger_time l)
  time_agrees = let time = whole_ns (seconds_in e.words) (nanoseconds_in e.words) in rw h.words (search)

  amount_written : Is (Ledger.amount_written l) (amount_in e.words) (2 ^ 32)
  amount_written = rw h.words (is_over (amount_in e.words) (2 ^ 32) (omega arith))

  period_agrees : Agrees (period_written e) (Ledger.ledger_period l)
  period_agrees = let period = amount_written in search

  -- an adjust write runs at once, or waits, on both sides
  adjust_steers : Steers (adjusted_by e.steering (adjustment_in e.words))
      (Ledger.adjust_told l.steering (Ledger.amount_written l) (count_in l.words))
  unfolding adjusted_by
  adjust_steers =
      let same : eqb l.steering.owed 0 ≡ eqb e.steering.adjustment.cycles 0 =
      ap (λ (n : ℕ). eqb n 0) h.steering.owes
      in
      rw same (by (eqb e.steering.adjustment.cycles 0))
    where
      s : Steering
      s = e.steering

      o : LedgerSteering
      o = l.steering

      j : Adjustment
      j = adjustment_in e.words

      count : ℕ
      count = count_in l.words

      by : (b : Bool)
          → Steers
          (cond b (record { period = s.period; adjustment = j; waiting = s.waiting })
          (record { period = s.period; adjustment = s.adjustment; waiting = j }))
          (cond b (record { period = o.period; adjust = Ledger.amount_written l; owed = count; waiting = o.waiting })
          (record {
            period = o.period;
            adjust = o.adjust;
            owed = o.owed;
            waiting = Ledger.waits (Ledger.amount_written l) count;
          }))
      by true = record {
        period_is = h.steering.period_is;
        owes = ap count_in h.words;
        adjust_is = λ n. amount_written;
        waits_is = h.steering.waits_is;
      }
      by false = record {
        period_is = h.steering.period_is;
        owes = h.steering.owes;
        adjust_is = h.steering.adjust_is;
        waits_is = (ap count_in h.words, amount_written);
      }

  adjust_agrees : Agrees (adjust_written e) (Ledger.ledger_adjust l)
  adjust_agrees = let steering = adjust_steers in search

  write_agrees : (a : ℕ) → Agrees (written e a) (Ledger.ledger_written l a)
  unfolding Ledger.ledger_written
  write_agrees a =
      by_write (λ (x : Engine). Agrees x (Ledger.ledger_written l a)) e a
      (record {
        time = λ z. rw z time_agrees;
        period = λ z. rw z period_agrees;
        adjust = λ z. rw z adjust_agrees;
        none = λ past. rw (get_or-eq_default Ledger.ledger_writings (λ l. l) past) h;
      })

-- op 2, the read
read_agrees : (e : Engine) (l : Ledger) (b : ℕ) → Agrees e l
    → Agrees (read_engine e b) (Ledger.ledger_words l (read_words e b))
unfolding read_engine
read_agrees e l b h =
    words_agree (cond (eqb b 0) e (with_fifo e b (popped (fifo e b)))) l (read_words e b)
    (split (λ (x : Engine). Agrees x l) (eqb b 0) (λ z. h) (λ z. h))

-- op 2, the write and then what it reads
commanded_agrees : (e : Engine) (l : Ledger) (write read : ℕ) → Agrees e l
    → Agrees (commanded e write read).engine
    (Ledger.ledger_commanded l write read (commanded e write read).values)
unfolding Ledger.ledger_commanded commanded
commanded_agrees e l write read h = by (eqb read 8)
  where
    done : Bool → Outcome
    done b =
        cond b (accepted no_words (written e write))
        (accepted (read_words (written e write) read) (read_engine (written e write) read))

    by : (b : Bool)
        → Agrees (done b).engine
        (cond b (Ledger.ledger_written l write)
        (Ledger.ledger_words (Ledger.ledger_written l write) (done b).values))
    by true = write_agrees e l h write
    by false = read_agrees (written e write) (Ledger.ledger_written l write) read (write_agrees e l h write)

pub command_agrees : (e : Engine) (l : Ledger) (c : Command) → Agrees e l → c.op ≡ 2
    → Agrees (commanded e c.a c.b).engine (after l c (commanded e c.a c.b))
unfolding told booked
command_agrees e l c h o = rw (o, commanded_accepted e c.a c.b) (commanded_agrees e l c.a c.b h)
