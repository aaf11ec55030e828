-- One tick of a valid record: its step is that of an amount in range, and each part of the record stays in range by the
-- laws of that part.
use Prim.Native.Nat.{◌+◌, ◌<◌, ◌≤◌}
use Rattle.model.specs.declared.Engine.{Engine}
use Rattle.model.specs.declared.Command.{Command}
use Rattle.model.specs.Clock.{shown, end_of_time, cycle_amount}
use Rattle.model.specs.Tick.{tick_step, tick_engine}
use Rattle.model.specs.Sentences.{Codes}
use Rattle.model.proofs.Laws.InRange.{Valid, clock_in}
use Rattle.model.proofs.Laws.ExactTime.{ticked_ok, shown_ticked, step_bounds, cycle_amount_in}
use Rattle.model.proofs.Laws.ExactTime.{steering_after_ok}
use Rattle.model.proofs.Laws.FifoPlaces.{captured_ok}
use Rattle.model.proofs.Laws.Generated.{generated_ok}
use Rattle.model.proofs.Laws.Bits.{only_bits_latch}
use Rattle.model.proofs.Laws.Parts.{interrupts_in, interrupts_ok}

-- 256 ≤ S ≤ 65,536 in a tick of a valid record
pub tick_step_bounds : (e : Engine) → Valid e → (256 ≤ tick_step e) × (tick_step e ≤ 65536)
tick_step_bounds e v =
    step_bounds e.clock (cycle_amount e.steering) (clock_in e.clock v.clock).remainder
    (cycle_amount_in e.steering v.steering)

-- its record is valid again
pub tick_valid : (e : Engine) (c : Command) → Valid e → shown e.clock + tick_step e < end_of_time
    → Codes c → Valid (tick_engine e c)
unfolding tick_engine
tick_valid e c v near f =
    let i = interrupts_in e.interrupts v.interrupts in
    let small = (tick_step_bounds e v).1 in
    let now = shown_ticked e.clock (cycle_amount e.steering) in
    record {
      clock = ticked_ok e.clock _ near;
      steering = steering_after_ok e.steering v.steering;
      fifo1 = captured_ok e.fifo1 _ _ c.a f.input1 near v.fifo1;
      fifo2 = captured_ok e.fifo2 _ _ c.b f.input2 near v.fifo2;
      fifo3 = captured_ok e.fifo3 _ _ c.c f.input3 near v.fifo3;
      generator1 = rw now (generated_ok e.generator1 _ _ small v.generator1);
      generator2 = rw now (generated_ok e.generator2 _ _ small v.generator2);
      interrupts = interrupts_ok _ (only_bits_latch _ _ i.0) i.1;
      words = v.words;
    }
