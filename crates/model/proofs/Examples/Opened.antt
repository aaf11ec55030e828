-- What a command gives, with all that it computes by: a proof that unfolds `opened` unfolds the engine's definitions.
use Rattle.model.specs.declared.Engine.{Engine}
use Rattle.model.specs.declared.Command.{Command}
use Rattle.model.specs.declared.Outcome.{Outcome}
use Rattle.model.specs.Words
use Rattle.model.specs.Clock
use Rattle.model.specs.Fifo
use Rattle.model.specs.Generator
use Rattle.model.specs.Interrupts
use Rattle.model.specs.Record
use Rattle.model.specs.Tick
use Rattle.model.specs.RunLine
use Rattle.model.specs.OtherOps
use Rattle.model.specs.Preview
use Rattle.model.specs.Departure
use Rattle.model.specs.Ops
use Rattle.model.specs.Ranges
use Rattle.model.specs.Fields
use Rattle.model.specs.Checks
use Rattle.model.specs.Execute
use Rattle.model.specs.Run.{engine_by, history_by}

unfoldable pub opened : Engine → Command → Outcome
unfolding engine_by history_by Words.seconds_in Words.nanoseconds_in Words.above_nanoseconds Words.whole_in
    Words.frac_in Words.amount_in Words.below_frac Words.count_in Words.time_words Clock.cycle_amount Clock.step_by
    Clock.remainder_by Clock.ticked Clock.last_cycle Clock.steering_after Clock.adjusted_by Fifo.timestamp_ns
    Fifo.timestamp_of Fifo.captured Fifo.captures_first Fifo.overflows Fifo.popped Generator.next_instant
    Generator.is_before Generator.is_due Generator.starts_by Generator.first_of Generator.eighth_of Generator.placed
    Generator.following Generator.generated Generator.completes_event Generator.completes_sequence
    Interrupts.with_bit Interrupts.latch Interrupts.any_both Interrupts.interrupt_word Interrupts.status_word
    Interrupts.only_bits Record.power_on Ranges.clock_ok Ranges.adjustment_ok Ranges.steering_ok Ranges.timestamp_ok
    Ranges.place_ok Ranges.fifo_ok Ranges.generator_ok Ranges.interrupts_ok Ranges.words_ok Ranges.valid
    Fields.field_tests Fields.fields_ok Checks.checks Checks.answer_of Tick.tick_events Tick.tick_engine
    Tick.tick_values Tick.ticks Tick.in_time_for RunLine.has_ended RunLine.one_more RunLine.run RunLine.ran
    OtherOps.written OtherOps.read_words OtherOps.read_engine OtherOps.commanded OtherOps.interrupts_read
    OtherOps.status_of Preview.previewed Departure.departed Departure.recovered Departure.stays_signed
    Departure.is_time Ops.performed Execute.execute
opened = Execute.execute
