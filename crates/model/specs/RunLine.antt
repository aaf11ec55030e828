-- Op 9, a run line: at most so many ticks without inputs, one after the other. Document 02, A.1.
use Rattle.std.specs.Prelude.{ℕ, zero, suc, ◌+◌, ◌*◌, ◌/◌, ◌%◌, ◌^◌, Bool, ◌||◌, not, cond, eqb}
use Rattle.model.specs.declared.Engine.{Engine}
use Rattle.model.specs.declared.Command.{Command}
use Rattle.model.specs.declared.Outcome.{Outcome}
use Rattle.model.specs.declared.Words.{Words}
use Rattle.model.specs.Words.{five, no_words}
use Rattle.model.specs.Outcome.{accepted}
use Rattle.model.specs.Tick.{ends_in_time, tick_engine, tick_values, no_inputs}

-- the run line of at most a ticks
abbrev pub run_line : ℕ → Command
run_line a = record { op = 9; a = a; b = 0; c = 0; d = 0; e = 0; f = 0; g = 0; h = 0 }

-- the ticks that a run line tells: low 16 bits in v3, the rest in v4 (document 02, A.1)
abbrev pub ticks_told : Words → ℕ
ticks_told v = v.w3 + v.w4 * 2 ^ 16

-- "the stretch", as far as a run has come: the record, the values of its last tick, and the ticks done
pub record Stretch : Type 0 where
  pub engine : Engine
  pub values : Words
  pub done : ℕ

abbrev pub one_tick : Stretch → Stretch
one_tick x = record {
  engine = tick_engine x.engine no_inputs;
  values = tick_values x.engine;
  done = suc x.done;
}

abbrev pub places_edge : Words → Bool
places_edge v = not (eqb v.w1 0) || not (eqb v.w2 0)

-- "It ends after the first tick that places an edge, or before a tick that would get 15"
unfoldable pub has_ended : Stretch → Bool
has_ended x = places_edge x.values || not (ends_in_time x.engine)

unfoldable pub one_more : Stretch → Stretch
one_more x = cond (has_ended x) x (one_tick x)

-- at most n ticks
unfoldable pub run : ℕ → Engine → Stretch
run zero e = record { engine = e; values = no_words; done = 0 }
run (suc n) e = one_more (run n e)

-- "v1 and v2 of the last tick, and the ticks done in v3 (low 16 bits) and v4 (high)"
abbrev pub run_values : Stretch → Words
run_values x = five x.values.w1 x.values.w2 (x.done % 2 ^ 16) (x.done / 2 ^ 16) 0

unfoldable pub ran : Engine → ℕ → Outcome
ran e a = accepted (run_values (run a e)) (run a e).engine
