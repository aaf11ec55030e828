-- A run moves no FIFO: a tick without an edge on an input captures nothing, and a run is its ticks.
use Prim.Native.Nat.{ℕ, zero, suc}
use mathlib.Core.Path.{◌≡◌, refl, sym}
use Rattle.model.specs.declared.Engine.{Engine}
use Rattle.model.specs.Fifo.{captured}
use Rattle.model.specs.Tick.{tick_engine, ticks}
use Rattle.model.specs.RunLine.{run}
use Rattle.model.proofs.Laws.RunTicks.{ran_ticks}
use Rattle.change.specs.Changes.{applied}
use Rattle.run.specs.Runs.{ran_to}

-- the FIFOs of one record are those of another
pub record SameFifos (a b : Engine) : Type 0 where
  pub fifo1 : a.fifo1 ≡ b.fifo1
  pub fifo2 : a.fifo2 ≡ b.fifo2
  pub fifo3 : a.fifo3 ≡ b.fifo3

none_moved : (e : Engine) → SameFifos (ticks 0 e) e
unfolding ticks
none_moved e = record { fifo1 = refl; fifo2 = refl; fifo3 = refl }

tick_moves_none : (n : ℕ) (e : Engine) → SameFifos (ticks n e) e → SameFifos (ticks (suc n) e) e
unfolding ticks tick_engine captured
tick_moves_none n e h = record { fifo1 = h.fifo1; fifo2 = h.fifo2; fifo3 = h.fifo3 }

ticks_move_none : (n : ℕ) (e : Engine) → SameFifos (ticks n e) e
ticks_move_none zero e = none_moved e
ticks_move_none (suc n) e = tick_moves_none n e (ticks_move_none n e)

run_moves_none : (n : ℕ) (e : Engine) → SameFifos (run n e).engine e
run_moves_none n e = rw (ran_ticks n e).engine (ticks_move_none (run n e).done e)

-- so the parts of its change make its record
pub run_applied : (n : ℕ) (e : Engine) → applied e (ran_to (run n e)) ≡ (run n e).engine
run_applied n e =
    let same = run_moves_none n e in
    let one = sym same.fifo1 in
    let two = sym same.fifo2 in
    let three = sym same.fifo3 in
    let x = (run n e).engine in
    λ i. record {
      clock = x.clock;
      steering = x.steering;
      fifo1 = one i;
      fifo2 = two i;
      fifo3 = three i;
      generator1 = x.generator1;
      generator2 = x.generator2;
      interrupts = x.interrupts;
      words = x.words;
    }
