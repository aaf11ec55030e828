-- The engine record at power-on, and the changes of its parts. Document 01, "The clock".
use Rattle.std.specs.Prelude.{ℕ, ◌*◌, ◌^◌, cond, eqb}
use Rattle.model.specs.declared.Clock.{Clock}
use Rattle.model.specs.declared.Steering.{Steering}
use Rattle.model.specs.declared.Fifo.{Fifo}
use Rattle.model.specs.declared.Generator.{Generator}
use Rattle.model.specs.declared.Words.{Words}
use Rattle.model.specs.declared.Interrupts.{Interrupts}
use Rattle.model.specs.declared.Engine.{Engine}
use Rattle.model.specs.Words.{no_words}
use Rattle.model.specs.Clock.{no_adjustment, clock_set}
use Rattle.model.specs.Fifo.{empty_fifo}
use Rattle.model.specs.Generator.{idle_generator}

-- time 0, PERIOD 8 ns, both masks and all words 0, everything else empty
unfoldable pub power_on : Engine
power_on = record {
  clock = clock_set 0 0;
  steering = record { period = 8 * 2 ^ 32; adjustment = no_adjustment; waiting = no_adjustment };
  fifo1 = empty_fifo;
  fifo2 = empty_fifo;
  fifo3 = empty_fifo;
  generator1 = idle_generator;
  generator2 = idle_generator;
  interrupts = record { latched = 0; enabled = 0 };
  words = no_words;
}

-- the version of the record's layout, for callers that keep a record. A part that is added counts it on: 2 has the
-- waiting adjustment (document 02, A.4)
abbrev pub record_version : ℕ
record_version = 2

-- the record with a part replaced
abbrev pub with_clock : Engine → Clock → Engine
with_clock e x = record {
  clock = x;
  steering = e.steering;
  fifo1 = e.fifo1;
  fifo2 = e.fifo2;
  fifo3 = e.fifo3;
  generator1 = e.generator1;
  generator2 = e.generator2;
  interrupts = e.interrupts;
  words = e.words;
}

abbrev pub with_steering : Engine → Steering → Engine
with_steering e x = record {
  clock = e.clock;
  steering = x;
  fifo1 = e.fifo1;
  fifo2 = e.fifo2;
  fifo3 = e.fifo3;
  generator1 = e.generator1;
  generator2 = e.generator2;
  interrupts = e.interrupts;
  words = e.words;
}

abbrev pub with_fifos : Engine → Fifo → Fifo → Fifo → Engine
with_fifos e x y z = record {
  clock = e.clock;
  steering = e.steering;
  fifo1 = x;
  fifo2 = y;
  fifo3 = z;
  generator1 = e.generator1;
  generator2 = e.generator2;
  interrupts = e.interrupts;
  words = e.words;
}

abbrev pub with_generators : Engine → Generator → Generator → Engine
with_generators e x y = record {
  clock = e.clock;
  steering = e.steering;
  fifo1 = e.fifo1;
  fifo2 = e.fifo2;
  fifo3 = e.fifo3;
  generator1 = x;
  generator2 = y;
  interrupts = e.interrupts;
  words = e.words;
}

abbrev pub with_interrupts : Engine → Interrupts → Engine
with_interrupts e x = record {
  clock = e.clock;
  steering = e.steering;
  fifo1 = e.fifo1;
  fifo2 = e.fifo2;
  fifo3 = e.fifo3;
  generator1 = e.generator1;
  generator2 = e.generator2;
  interrupts = x;
  words = e.words;
}

abbrev pub with_words : Engine → Words → Engine
with_words e x = record {
  clock = e.clock;
  steering = e.steering;
  fifo1 = e.fifo1;
  fifo2 = e.fifo2;
  fifo3 = e.fifo3;
  generator1 = e.generator1;
  generator2 = e.generator2;
  interrupts = e.interrupts;
  words = x;
}

-- generator 1 or 2, and timestamp FIFO 1, 2 or 3, by number
abbrev pub generator : Engine → ℕ → Generator
generator e n = cond (eqb n 1) e.generator1 e.generator2

abbrev pub with_generator : Engine → ℕ → Generator → Engine
with_generator e n g = with_generators e (cond (eqb n 1) g e.generator1) (cond (eqb n 1) e.generator2 g)

abbrev pub fifo : Engine → ℕ → Fifo
fifo e n = cond (eqb n 1) e.fifo1 (cond (eqb n 2) e.fifo2 e.fifo3)

abbrev pub with_fifo : Engine → ℕ → Fifo → Engine
with_fifo e n f =
    with_fifos e
    (cond (eqb n 1) f e.fifo1)
    (cond (eqb n 1) e.fifo2 (cond (eqb n 2) f e.fifo2))
    (cond (eqb n 1) e.fifo3 (cond (eqb n 2) e.fifo3 f))
