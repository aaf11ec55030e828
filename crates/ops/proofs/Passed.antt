-- An accepted command of op 2 has words in range; and a FIFO that it reads was found filled, which its write leaves
-- alone.
use Prim.Native.Nat.{ℕ, ◌<◌}
use mathlib.Core.Path.{◌≡◌, refl, sym}
use mathlib.Core.Bool.{Bool, true, false, ◌&&◌, not, and-false}
use native.Mathlib.Omega.{arith}
use lib.Dec.{eqb, leb}
use borrow.Author.Tests.{eqb-true, eqb-false, eq-eqb, ne_eqb, lt-leb}
use Rattle.model.specs.declared.Engine.{Engine}
use Rattle.model.specs.declared.Command.{Command}
use Rattle.model.specs.Bounds.{WordsRange}
use Rattle.model.specs.declared.Words.{Words}
use Rattle.model.specs.Words.{no_words, time_words}
use Rattle.model.specs.Fifo.{entry}
use Rattle.model.specs.Record.{with_words, fifo}
use Rattle.model.specs.Outcome.{accepted}
use Rattle.model.specs.OtherOps.{written, stamp_words, read_words, read_engine, commanded}
use Rattle.model.specs.Checks.{is_op, reads_fifo}
use Rattle.model.proofs.Laws.InRange.{valid_parts, words_in}
use Rattle.model.proofs.Laws.Parts.{fifo_at_ok}
use Rattle.model.proofs.Laws.Accepting.{Accepted, accepted_facts, by_write}
use Rattle.model.proofs.Laws.Valid.{reads_fifo_lem, fifo_filled}
use Rattle.std.specs.Prelude.{Ok}
use Rattle.change.specs.declared.Change.{Change}
use Rattle.change.specs.Changes.{change_to, applied, oldest_taken, outcome_of, moves_fifo, Gives}
use Rattle.change.proofs.Given.{others_still}
use Rattle.ops.specs.Reading.{Commands, Readable, words_read}

-- not empty is holding some
pub some : (count : ℕ) → eqb count 0 ≡ false → 0 < count
some count h = let n = eqb-false count 0 h in omega arith

module _ (e : Engine) (c : Command) (k : Commands e c) where
  facts : Accepted e c
  facts = accepted_facts e c k.passed

  pub words_within : WordsRange e.words
  words_within = words_in e.words (valid_parts e facts.valid).words

  -- no tick
  no_tick : eqb c.op 0 ≡ false
  no_tick = ne_eqb c.op 0 (λ z. omega (arith, k.op, z))

  reads_none : eqb c.b 8 ≡ true → reads_fifo c ≡ false
  reads_none b8 =
      rw (lt-leb c.b 3 (omega (arith, eqb-true c.b 8 b8))) (and-false (is_op 2 c && leb 1 c.b))

  -- the write leaves the FIFOs alone, so its record is the change to it
  pub written_gives : (now : Engine) → now ≡ written e c.a → eqb c.b 8 ≡ true
      → Gives e c (commanded e c.a c.b) (Ok (change_to no_words now false))
  unfolding commanded
  written_gives now is b8 =
      let outcome = by_write Same e c.a (search) in
      rw is (record { is = rw b8 outcome; moving = sym (others_still e c no_tick (reads_none b8)) })
    where
      Same : Engine → Type 0
      Same x = outcome_of e c (Ok (change_to no_words x false)) ≡ accepted no_words x

  module _ (n8 : eqb c.b 8 ≡ false) where
    reads : eqb c.b 0 ≡ false → reads_fifo c ≡ true
    reads n0 = reads_fifo_lem c k.op facts.fields n8 n0

    pub readable : Readable e c.b
    readable = record {
      filled = λ n0. fifo_filled e c facts (reads n0);
      ok = fifo_at_ok e c.b (valid_parts e facts.valid);
    }

    -- the words that are read, and the FIFO that moves
    abbrev words_now : Words
    words_now = words_read e (written e c.a).clock c.b

    abbrev change_now : Change
    change_now = change_to words_now (with_words (written e c.a) words_now) (not (eqb c.b 0))

    by_selector : (z : Bool) → eqb c.b 0 ≡ z → outcome_of e c (Ok change_now) ≡ commanded e c.a c.b
    unfolding commanded read_words read_engine
    by_selector true y = rw (n8, y) (by_write Same e c.a (search))
      where
        shown_words : Engine → Words
        shown_words x = time_words x.clock.seconds x.clock.nanoseconds 0

        Same : Engine → Type 0
        Same x =
            outcome_of e c (Ok (change_to (shown_words x) (with_words x (shown_words x)) false))
            ≡ accepted (shown_words x) (with_words x (shown_words x))
    by_selector false y =
        rw (n8, y, no_tick) (by_write Same e c.a (search))
      where
        oldest_words : Engine → Words
        oldest_words x = stamp_words (entry (fifo x c.b) 0)

        Same : Engine → Type 0
        Same x =
            accepted (oldest_words e)
            (applied (oldest_taken e c.b) (change_to (oldest_words e) (with_words x (oldest_words e)) true))
            ≡ accepted (oldest_words x) (with_words (oldest_taken x c.b) (oldest_words x))

    -- a FIFO moves where its selector is not 0
    moves_by : (z : Bool) → eqb c.b 0 ≡ z → not z ≡ moves_fifo e c
    unfolding moves_fifo
    moves_by true y =
        let b0 = eqb-true c.b 0 y in
        sym (others_still e c no_tick (rw (lt-leb 1 c.b (omega arith), and-false (is_op 2 c)) refl))
    moves_by false y = rw (eq-eqb _ _ k.passed, no_tick, reads y) refl

    pub read_gives : Gives e c (commanded e c.a c.b) (Ok change_now)
    read_gives = record {
      is = by_selector (eqb c.b 0) refl;
      moving = moves_by (eqb c.b 0) refl;
    }
