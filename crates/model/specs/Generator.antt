-- Event generators. Document 01, "Stamps and generators"; sheet 000, 6.13.3.
use Rattle.std.specs.Prelude.{ℕ, ◌+◌, ◌*◌, ◌-◌, ◌/◌, ◌%◌, ◌^◌, List, [], ◌∷◌, Bool, ◌&&◌, ◌||◌, not, cond, eqb, leb}
use Rattle.std.specs.Prelude.{ltb}
use Rattle.model.specs.declared.Instant.{Instant}
use Rattle.model.specs.declared.Generator.{Generator}
use Rattle.model.specs.Units.{ns_per_second}
use Rattle.model.specs.Edges.{edge_code}

abbrev pub no_instant : Instant
no_instant = record { seconds = 0; nanoseconds = 0; remainder = 0 }

abbrev pub idle_generator : Generator
idle_generator = record {
  pending = no_instant;
  whole = 0;
  numerator = 0;
  denominator = 0;
  left = 0;
  direction = 0;
  mark = 0;
}

abbrev pub is_running : Generator → Bool
is_running g = not (eqb g.left 0)

-- the pending instant E times D: an exact number of 1/D ns
abbrev pub pending_total : Generator → ℕ
pending_total g = (g.pending.seconds * ns_per_second + g.pending.nanoseconds) * g.denominator + g.pending.remainder

-- the interval W + N/D times D
abbrev pub interval_total : Generator → ℕ
interval_total g = g.whole * g.denominator + g.numerator

-- the instant of t / D ns
abbrev pub instant_at : ℕ → ℕ → Instant
instant_at t d = record { seconds = t / d / ns_per_second; nanoseconds = t / d % ns_per_second; remainder = t % d }

-- the ideal instant after the pending one
unfoldable pub next_instant : Generator → Instant
next_instant g = instant_at (pending_total g + interval_total g) g.denominator

-- the pending instant E is below a time t of 1/256 ns
unfoldable pub is_before : Generator → ℕ → Bool
is_before g t = ltb (pending_total g * 256) (t * g.denominator)

-- a tick of step s from a places an edge: E is below A + S
unfoldable pub is_due : Generator → ℕ → ℕ → Bool
is_due g a s = is_running g && is_before g (a + s)

-- the start of eighth p by the time shown, A + p × S / 8, is not after E: both times 8 × 256 × D. Document 02, A.3.
unfoldable pub starts_by : Generator → ℕ → ℕ → ℕ → Bool
starts_by g a s p = leb ((8 * a + p * s) * g.denominator) (8 * (pending_total g * 256))

-- the first of these numbers for which a test holds, else 0
unfoldable pub first_of : (ℕ → Bool) → List ℕ → ℕ
first_of test [] = 0
first_of test (p ∷ ps) = cond (test p) p (first_of test ps)

abbrev pub from_the_top : List ℕ
from_the_top = 7 ∷ 6 ∷ 5 ∷ 4 ∷ 3 ∷ 2 ∷ 1 ∷ 0 ∷ []

-- the eighth in which E falls: it is tested at 7, then 6, and so on. Document 02, A.3.
unfoldable pub eighth_of : Generator → ℕ → ℕ → ℕ
eighth_of g a s = first_of (starts_by g a s) from_the_top

-- the code that a tick returns for the generator
unfoldable pub placed : Generator → ℕ → ℕ → ℕ
placed g a s = cond (is_due g a s) (edge_code g.direction (eighth_of g a s)) 0

abbrev pub is_last : Generator → Bool
is_last g = eqb g.left 1

-- the next instant pending, one edge less, the other direction
abbrev pub onward : Generator → Generator
onward g = record {
  pending = next_instant g;
  whole = g.whole;
  numerator = g.numerator;
  denominator = g.denominator;
  left = g.left - 1;
  direction = 1 - g.direction;
  mark = g.mark;
}

-- after an edge: idle where it was the last, or where the next instant is past the last second
unfoldable pub following : Generator → Generator
following g = cond (is_last g || leb (2 ^ 48) (next_instant g).seconds) idle_generator (onward g)

unfoldable pub generated : Generator → ℕ → ℕ → Generator
generated g a s = cond (is_due g a s) (following g) g

-- a marked generator sets EC with each edge
unfoldable pub completes_event : Generator → ℕ → ℕ → Bool
completes_event g a s = is_due g a s && eqb g.mark 1

-- the last edge sets SC
unfoldable pub completes_sequence : Generator → ℕ → ℕ → Bool
completes_sequence g a s = is_due g a s && is_last g
