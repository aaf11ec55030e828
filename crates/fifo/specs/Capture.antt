-- An input edge in a tick: what is asked of the FIFO and the clock, and what becomes of the edge. Document 01, "Stamps
-- and generators".
use Rattle.std.specs.Prelude.{◌≡◌, ℕ, ◌+◌, ◌*◌, ◌^◌, ◌<◌, ◌≤◌, Bool, true, false, cond, eqb, set}
use Rattle.model.specs.declared.Clock.{Clock}
use Rattle.model.specs.declared.Fifo.{Fifo}
use Rattle.model.specs.declared.Timestamp.{Timestamp}
use Rattle.model.specs.Units.{ns_per_second}
use Rattle.model.specs.Clock.{shown, end_of_time}
use Rattle.model.specs.Edges.{code_eighth}
use Rattle.model.specs.Fifo.{nearest_ns, is_empty, is_full}
use Rattle.model.specs.Bounds.{ClockRange}
use Rattle.fifo.specs.declared.Arrival.{Arrival}
use Rattle.fifo.specs.declared.Arrival.TheVariants.{NoEdge, Stored, Overflow}

-- the eighth of a code, one of eight
pub record EighthOf (code r : ℕ) : Type 0 where
  pub is : r ≡ code_eighth code
  pub low : r ≤ 7

-- p × S, below eight steps
pub record OffsetOf (step code r : ℕ) : Type 0 where
  pub is : r ≡ code_eighth code * step
  pub part : r ≤ 7 * step
  pub low : r ≤ 458752

-- an edge's code, in a tick of a step from the clock k
pub record Stamping (k : Clock) (step code : ℕ) : Type 0 where
  pub clock : ClockRange k
  pub low : step ≤ 65536
  pub near : shown k + step < end_of_time
  pub some : 0 < code
  pub few : code ≤ 16

-- a second, and nanoseconds from its start on: at most the first one past the last second
pub record Carrying (seconds ns : ℕ) : Type 0 where
  pub second : seconds < 2 ^ 48
  pub low : ns < 2000000000
  pub reach : seconds * ns_per_second + ns ≤ 2 ^ 48 * ns_per_second

-- an edge's instant to the nearest nanosecond, from the start of the clock's second on
pub record NearestOf (k : Clock) (step code r : ℕ) : Type 0 where
  pub is : k.seconds * ns_per_second + r ≡ nearest_ns (shown k) step (code_eighth code)
  pub carrying : Carrying k.seconds r

-- an input's code, in a tick of a step from the clock k
pub record Capturing (k : Clock) (step code : ℕ) : Type 0 where
  pub clock : ClockRange k
  pub low : step ≤ 65536
  pub near : shown k + step < end_of_time
  pub few : code ≤ 16

abbrev pub pushed : Fifo → Timestamp → Fifo
pushed f t = record { entries = set f.entries f.count t; count = f.count + 1 }

-- what becomes of an input's code at a FIFO
unfoldable pub arrival_of : Fifo → ℕ → Arrival
arrival_of f code = cond (eqb code 0) NoEdge (cond (is_full f) Overflow (Stored (is_empty f)))

-- whether the edge is stored, the first in its FIFO, or dropped
abbrev pub is_stored : Arrival → Bool
is_stored NoEdge = false
is_stored (Stored first) = true
is_stored Overflow = false

abbrev pub is_first : Arrival → Bool
is_first NoEdge = false
is_first (Stored first) = first
is_first Overflow = false

abbrev pub is_dropped : Arrival → Bool
is_dropped NoEdge = false
is_dropped (Stored first) = false
is_dropped Overflow = true
