-- A valid record stays valid: each op replaces parts of the record by parts that its checks, or the laws of those
-- parts, keep in range; a refusal keeps the record as it is.
use Prim.Native.Nat.{ℕ, ◌≤◌}
use mathlib.Core.Path.{◌≡◌, refl}
use mathlib.Core.Logic.{⊎_elim}
use mathlib.Core.Bool.{true, false}
use native.Mathlib.Omega.{arith}
use native.Mathlib.Nat.{mul-le-mul_right}
use lib.Dec.{eqb}
use borrow.Author.Tests.{not-true, ltb-true, leb-true, eqb-false, eq-eqb, le-leb}
use Rattle.model.specs.declared.Engine.{Engine}
use Rattle.model.specs.declared.Command.{Command}
use Rattle.model.specs.declared.Outcome.{Outcome}
use Rattle.model.specs.Words
use Rattle.model.specs.Clock.{shown}
use Rattle.model.specs.Fifo.{is_empty}
use Rattle.model.specs.Interrupts.{only_bits}
use Rattle.model.specs.Record
use Rattle.model.specs.RunLine
use Rattle.model.specs.OtherOps
use Rattle.model.specs.Preview.{previewed}
use Rattle.model.specs.Departure.{departed, recovered}
use Rattle.model.specs.Ops
use Rattle.model.specs.Ranges
use Rattle.model.specs.Fields
use Rattle.model.specs.Checks
use Rattle.model.specs.Execute.{execute}
use Rattle.model.proofs.Laws.Testing.{split, both_true, or_right}
use Rattle.model.specs.Bounds.{AmountRange, AdjustmentRange}
use Rattle.model.proofs.Laws.InRange.{Valid, valid_parts, parts_valid, clock_ok_lem}
use Rattle.model.proofs.Laws.InRange.{steering_in, steering_ok_lem, running_ok}
use Rattle.model.specs.Bounds.{WordsRange}
use Rattle.model.proofs.Laws.InRange.{words_in}
use Rattle.model.proofs.Laws.WordFields.{time_words_in, seconds_in_low, amount_words_in, count_low}
use Rattle.model.proofs.Laws.ExactTime.{adjusted_ok}
use Rattle.model.proofs.Laws.FifoPlaces.{popped_ok, oldest_rising}
use Rattle.model.proofs.Laws.Generated.{idle_generator_ok}
use Rattle.model.proofs.Laws.Listed.{listed_in, mask_ok}
use Rattle.model.proofs.Laws.Accepting.{Accepted, tick_first, by_answer, by_op, by_write}
use Rattle.model.proofs.Laws.Parts.{interrupts_in, interrupts_ok, none_latched, words_valid, steering_valid}
use Rattle.model.proofs.Laws.Parts.{interrupts_valid, fifo_valid, fifo_at_ok, GeneratorOk, generator_valid}
use Rattle.model.proofs.Laws.TickRange.{tick_valid}
use Rattle.model.proofs.Laws.RunTicks.{run_valid}

-- an adjust write, where numbers 9 to 11 let it pass
pub adjust_written_valid : (e : Engine) → Valid e → 1 ≤ Words.whole_in e.words → 1 ≤ Words.count_in e.words
    → e.steering.waiting.cycles ≡ 0
    → Valid (OtherOps.adjust_written e)
adjust_written_valid e v whole count free =
    let w = words_in e.words v.words in
    let new : AdjustmentRange (OtherOps.adjustment_in e.words) =
    record { amount = amount_words_in e.words w whole; some = count; cycles = count_low e.words w }
    in
    steering_valid e _ v (adjusted_ok e.steering _ v.steering new free)

-- op 2, the write
module _ (e : Engine) (c : Command) (o : c.op ≡ 2) (k : Accepted e c) where
  v : Valid e
  v = valid_parts e k.valid

  w : WordsRange e.words
  w = words_in e.words v.words

  writes : (n : ℕ) → c.a ≡ n → Checks.writes n c ≡ true
  writes n a = both_true _ _ (eq-eqb _ _ o) (eq-eqb _ _ a)

  time_valid : c.a ≡ 0 → Valid (OtherOps.time_written e)
  time_valid a =
      let parts = v in
      let f = k.check8 (writes 0 a) in
      let clock = clock_ok_lem (OtherOps.time_written e).clock (omega (arith, seconds_in_low e.words w)) in
      let idle = idle_generator_ok (shown (OtherOps.time_written e).clock) in
      search

  amount_in : Checks.writes_amount c ≡ true → AmountRange (Words.amount_in e.words)
  amount_in h = amount_words_in e.words w (k.check9 h)

  period_valid : c.a ≡ 1 → Valid (OtherOps.period_written e)
  period_valid a =
      let f = steering_in e.steering v.steering in
      steering_valid e _ v
      (steering_ok_lem _
      (record {
        period = amount_in (simp (writes 1 a));
        running = f.running;
        waiting = f.waiting;
        behind = f.behind;
      }))

  adjust_valid : c.a ≡ 2 → Valid (OtherOps.adjust_written e)
  adjust_valid a =
      let adjusts : Checks.adjusts c ≡ true = rw (o, a) refl in
      adjust_written_valid e v (k.check9 (or_right (Checks.writes 1 c) _ adjusts)) (k.check10 adjusts)
      (k.check11 adjusts)

  pub written_valid : Valid (OtherOps.written e c.a)
  written_valid =
      by_write Valid e c.a
      (record { time = time_valid; period = period_valid; adjust = adjust_valid; none = λ past. v })

-- op 2, the read
read_words_in : (e : Engine) (n : ℕ) → Valid e → (eqb n 0 ≡ false → is_empty (Record.fifo e n) ≡ false)
    → WordsRange (OtherOps.read_words e n)
unfolding OtherOps.read_words
read_words_in e n v some =
    split WordsRange (eqb n 0)
    (λ y. time_words_in _ _ 0 (omega arith))
    (λ y. time_words_in _ _ _ (oldest_rising (Record.fifo e n) (some y) (fifo_at_ok e n v)))

read_valid : (e : Engine) (n : ℕ) → Valid e → (eqb n 0 ≡ false → is_empty (Record.fifo e n) ≡ false)
    → Valid (OtherOps.read_engine e n)
unfolding OtherOps.read_engine
read_valid e n v some =
    words_valid _ _
    (split Valid (eqb n 0)
    (λ y. v)
    (λ y. fifo_valid e n _ v (popped_ok (Record.fifo e n) (some y) (fifo_at_ok e n v))))
    (read_words_in e n v some)

-- a write leaves the FIFOs alone
pub fifo_written : (e : Engine) (selector n : ℕ) → Record.fifo (OtherOps.written e selector) n ≡ Record.fifo e n
fifo_written e selector n =
    by_write (λ (x : Engine). Record.fifo x n ≡ Record.fifo e n) e selector
    (record { time = λ a. refl; period = λ a. refl; adjust = λ a. refl; none = λ past. refl })

-- an accepted op 2 with a read selector that is neither 8 nor 0 reads a FIFO
pub reads_fifo_lem : (c : Command) → c.op ≡ 2 → Fields.fields_ok c ≡ true → eqb c.b 8 ≡ false → eqb c.b 0 ≡ false
    → Checks.reads_fifo c ≡ true
reads_fifo_lem c o ok n8 n0 =
    let low : c.b ≤ 3 =
    ⊎_elim (λ l. l) (λ eight. absurd (eqb-false c.b 8 n8 eight)) ((listed_in c ok).command o).1
    in
    let z = eqb-false c.b 0 n0 in
    both_true _ _ (both_true _ _ (eq-eqb _ _ o) (le-leb 1 c.b (omega arith))) (le-leb _ _ low)

-- a read of a FIFO found it not empty
pub fifo_filled : (e : Engine) (c : Command) → Accepted e c → Checks.reads_fifo c ≡ true
    → is_empty (Record.fifo e c.b) ≡ false
fifo_filled e c k reads = not-true _ (k.check7 reads)

commanded_valid : (e : Engine) (c : Command) → c.op ≡ 2 → Accepted e c
    → Valid (OtherOps.commanded e c.a c.b).engine
unfolding OtherOps.commanded
commanded_valid e c o k =
    split Good (eqb c.b 8)
    (λ y. written_valid e c o k)
    (λ n8. read_valid (OtherOps.written e c.a) c.b (written_valid e c o k)
    (λ n0. rw fifo_written (fifo_filled e c k (reads_fifo_lem c o k.fields n8 n0))))
  where
    Good : Outcome → Type 0
    Good x = Valid x.engine

-- op 5
interrupts_read_valid : (e : Engine) → Valid e → Valid (OtherOps.interrupts_read e).engine
unfolding OtherOps.interrupts_read
interrupts_read_valid e v =
    interrupts_valid e _ v (interrupts_ok _ none_latched (interrupts_in e.interrupts v.interrupts).1)

-- op 3
armed_ok : (e : Engine) (c : Command) → c.op ≡ 3 → Accepted e c → GeneratorOk (shown e.clock) (OtherOps.armed_by c)
armed_ok e c o k =
    let f = ((listed_in c k.fields).arm o).1 in
    let small = k.check12 (eq-eqb _ _ o) in
    let ahead = k.check14 (eq-eqb _ _ o) in
    let scaled = mul-le-mul_right c.f ahead in
    running_ok (OtherOps.armed_by c) _ (omega (arith, ltb-true, leb-true))

-- op 9
ran_valid : (e : Engine) (a : ℕ) → Valid e → Valid (RunLine.ran e a).engine
unfolding RunLine.ran
ran_valid e a v = run_valid a e v

pub performed_valid : (e : Engine) (c : Command) → Accepted e c → Valid (Ops.performed e c).engine
unfolding previewed departed recovered
performed_valid e c k =
    let v = valid_parts e k.valid in
    let i = interrupts_in e.interrupts v.interrupts in
    let l = listed_in c k.fields in
    by_op (λ (x : Outcome). Valid x.engine) e c k.op
    (record {
      tick = λ o. tick_valid e c v (ltb-true _ _ (k.check15 (tick_first c o))) (l.tick o).0;
      load = λ o. words_valid e _ v (let w = l.load o in omega arith);
      command = λ o. commanded_valid e c o k;
      arm = λ o. generator_valid e c.a _ v (armed_ok e c o k);
      stop = λ o. generator_valid e c.a _ v (idle_generator_ok _);
      interrupts = λ o. interrupts_read_valid e v;
      mask = λ o. interrupts_valid e _ v (interrupts_ok _ i.0 (mask_ok c.a (l.mask o).0 (l.mask o).1));
      status = λ o. v;
      show = λ o. v;
      run = λ o. ran_valid e c.a v;
      preview = λ o. v;
      depart = λ o. v;
      recover = λ o. v;
    })

-- execute keeps a valid record valid
pub execute_valid : (e : Engine) (c : Command) → Ranges.valid e ≡ true
    → Ranges.valid (execute e c).engine ≡ true
execute_valid e c v =
    by_answer (λ (x : Outcome). Ranges.valid x.engine ≡ true) e c
    (λ n. v)
    (λ k. parts_valid _ (performed_valid e c k))

-- so from power-on every record is valid
pub power_on_valid : Ranges.valid Record.power_on ≡ true
unfolding Record.power_on Ranges.valid Ranges.clock_ok Ranges.adjustment_ok Ranges.steering_ok Ranges.timestamp_ok
    Ranges.place_ok Ranges.fifo_ok Ranges.generator_ok Ranges.interrupts_ok Ranges.words_ok only_bits
power_on_valid = refl
