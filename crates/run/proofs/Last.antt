-- The last tick of a run, in which an edge falls: inputs bring no event, so that the bits of the outputs are all; and
-- the quiet ticks before it left generators, words and mask as they were.
use Prim.Native.Nat.{ℕ}
use mathlib.Core.Path.{◌≡◌, refl}
use Rattle.model.specs.declared.Engine.{Engine}
use Rattle.model.specs.Clock.{shown, last_cycle}
use Rattle.model.specs.Fifo.{captures_first, overflows}
use Rattle.model.specs.Generator.{completes_event, completes_sequence}
use Rattle.model.specs.Interrupts.{positions, latch}
use Rattle.model.specs.Tick.{tick_step, tick_events, no_inputs}
use Rattle.model.specs.Elapse.{elapsed}
use Rattle.interrupts.specs.declared.Source.TheVariants.{Tac, P1Ec, P1Sc, P2Ec, P2Sc}
use Rattle.interrupts.specs.Position.{latch_one, latch_two}

pub latched_outputs : (b : Engine) (word : ℕ)
    → let a = shown b.clock in
    let s = tick_step b in
    let one = b.generator1 in
    let two = b.generator2 in
    latch positions (tick_events b no_inputs) word
    ≡ latch_two P2Ec (completes_event two a s) P2Sc (completes_sequence two a s)
    (latch_two P1Ec (completes_event one a s) P1Sc (completes_sequence one a s)
    (latch_one Tac (last_cycle b.steering.adjustment) word))
unfolding tick_events captures_first overflows latch latch_one latch_two
latched_outputs b word = refl

module _ (n : ℕ) (e : Engine) where
  pub generator1_stays : (elapsed n e).generator1 ≡ e.generator1
  unfolding elapsed
  generator1_stays = refl

  pub generator2_stays : (elapsed n e).generator2 ≡ e.generator2
  unfolding elapsed
  generator2_stays = refl

  pub words_stay : (elapsed n e).words ≡ e.words
  unfolding elapsed
  words_stay = refl

  pub mask_stays : (elapsed n e).interrupts.enabled ≡ e.interrupts.enabled
  unfolding elapsed
  mask_stays = refl
