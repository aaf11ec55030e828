-- A generator in a tick: what is asked of it and the clock, and what the tick makes of it. Document 01, "Stamps and
-- generators".
use Rattle.std.specs.Prelude.{◌≡◌, true, false, Bool, cond, eqb, Option, Some, None, ℕ, ◌+◌, ◌*◌, ◌<◌, ◌≤◌, ◌^◌, leb}
use Rattle.model.specs.declared.Clock.{Clock}
use Rattle.model.specs.declared.Generator.{Generator}
use Rattle.model.specs.Units.{ns_per_second}
use Rattle.model.specs.Clock.{shown}
use Rattle.model.specs.Edges.{edge_code}
use Rattle.model.specs.Generator
use Rattle.model.specs.Ranges.{clock_ok, generator_ok}
use Rattle.generator.specs.declared.Edge.{Edge}

-- a pending instant and a time shown whose places can be compared one by one
pub record Comparable (g : Generator) (k : Clock) : Type 0 where
  pub pending : g.pending.nanoseconds < ns_per_second
  pub remainder : g.pending.remainder < g.denominator
  pub denominator : g.denominator < 2 ^ 32
  pub nanoseconds : k.nanoseconds < ns_per_second
  pub fraction : k.fraction < 256

-- a running generator within its ranges, at some time shown
pub record Running (g : Generator) : Type 0 where
  pub seconds : g.pending.seconds < 2 ^ 48
  pub nanoseconds : g.pending.nanoseconds < ns_per_second
  pub remainder : g.pending.remainder < g.denominator
  pub whole : g.whole ≤ 999999999
  pub numerator : g.numerator < g.denominator
  pub denominator : g.denominator < 2 ^ 32
  pub some : 0 < g.left
  pub direction : g.direction ≤ 1

-- a generator whose pending instant falls into the tick of a step from the clock k
pub record Due (g : Generator) (k : Clock) (step : ℕ) : Type 0 where
  pub clock : clock_ok k ≡ true
  pub generator : generator_ok g (shown k) ≡ true
  pub running : Generator.is_running g ≡ true
  pub before : Generator.is_before g (shown k + step) ≡ true
  pub low : step ≤ 65536

-- the first eighth from the top that does not start after the instant, by 8 × (E - A) and S in one unit
abbrev pub topmost : ℕ → ℕ → ℕ
topmost ahead length = Generator.first_of (λ p. leb (p * length) ahead) Generator.from_the_top

-- a generator, and a tick of a step that takes the clock from k to next
pub record Ticking (g : Generator) (k next : Clock) (step : ℕ) : Type 0 where
  pub generator : generator_ok g (shown k) ≡ true
  pub clock : clock_ok k ≡ true
  pub later : clock_ok next ≡ true
  pub apart : shown next ≡ shown k + step
  pub low : step ≤ 65536

-- the edge that a tick of step s from the time shown a places, if it places one
unfoldable pub advance_of : Generator → ℕ → ℕ → Option Edge
advance_of g a s =
    cond (Generator.is_due g a s)
    (Some (record {
      code = edge_code g.direction (Generator.eighth_of g a s);
      generator = Generator.following g;
      event = eqb g.mark 1;
      sequence = Generator.is_last g;
    }))
    None

-- what a tick makes of a generator: the code that it returns or 0, the generator after it, and whether EC and SC are
-- set
abbrev pub code_of : Option Edge → ℕ
code_of None = 0
code_of (Some edge) = edge.code

abbrev pub after : Generator → Option Edge → Generator
after g None = g
after g (Some edge) = edge.generator

abbrev pub event_of : Option Edge → Bool
event_of None = false
event_of (Some edge) = edge.event

abbrev pub sequence_of : Option Edge → Bool
sequence_of None = false
sequence_of (Some edge) = edge.sequence
