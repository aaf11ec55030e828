-- Timestamp FIFOs. Document 01, "Stamps and generators"; sheet 000, 6.13.4.
use Rattle.std.specs.Prelude.{ℕ, ◌+◌, ◌*◌, ◌-◌, ◌/◌, ◌%◌, ◌^◌, min, [], ◌∷◌, Bool, ◌&&◌, ◌||◌, not, cond, get_or, set}
use Rattle.std.specs.Prelude.{replicate, eqb, leb}
use Rattle.model.specs.declared.Timestamp.{Timestamp}
use Rattle.model.specs.declared.Fifo.{Fifo}
use Rattle.model.specs.Units.{ns_per_second}
use Rattle.model.specs.Edges.{code_rising, code_eighth}

abbrev pub no_timestamp : Timestamp
no_timestamp = record { seconds = 0; nanoseconds = 0; rising = 0 }

abbrev pub empty_fifo : Fifo
empty_fifo = record { entries = replicate 8 no_timestamp; count = 0 }

-- 999,999,999 ns of the last second
abbrev pub last_nanosecond : ℕ
last_nanosecond = 2 ^ 48 * ns_per_second - 1

-- A + p × S / 8 to the nearest ns, a half upward; A and S are in 1/256 ns. Document 02, A.2.
abbrev pub nearest_ns : ℕ → ℕ → ℕ → ℕ
nearest_ns a s p = (8 * a + p * s + 8 * 128) / (8 * 256)

-- the same, and never past the last one
unfoldable pub timestamp_ns : ℕ → ℕ → ℕ → ℕ
timestamp_ns a s p = min last_nanosecond (nearest_ns a s p)

-- so many ns since zero, as a timestamp
abbrev pub timestamp_at : ℕ → ℕ → Timestamp
timestamp_at ns rising = record { seconds = ns / ns_per_second; nanoseconds = ns % ns_per_second; rising = rising }

-- the timestamp of an input edge in a tick of step s from the time shown a
unfoldable pub timestamp_of : ℕ → ℕ → ℕ → Timestamp
timestamp_of a s code = timestamp_at (timestamp_ns a s (code_eighth code)) (code_rising code)

abbrev pub is_empty : Fifo → Bool
is_empty f = eqb f.count 0

abbrev pub is_full : Fifo → Bool
is_full f = leb 8 f.count

-- an input's code in a tick: an edge is stored in the first unused place, and dropped where there is none
unfoldable pub captured : Fifo → ℕ → ℕ → ℕ → Fifo
captured f a s code =
    cond (eqb code 0 || is_full f) f
    (record { entries = set f.entries f.count (timestamp_of a s code); count = f.count + 1 })

-- an edge into an empty FIFO sets NE
unfoldable pub captures_first : Fifo → ℕ → Bool
captures_first f code = not (eqb code 0) && is_empty f

-- an edge into a full FIFO sets OF
unfoldable pub overflows : Fifo → ℕ → Bool
overflows f code = not (eqb code 0) && is_full f

abbrev pub entry : Fifo → ℕ → Timestamp
entry f i = get_or f.entries i no_timestamp

-- a read takes the oldest out: each other moves one place down, and the last place is free
unfoldable pub popped : Fifo → Fifo
popped f = record {
  entries =
      entry f 1 ∷ entry f 2 ∷ entry f 3 ∷ entry f 4 ∷ entry f 5 ∷ entry f 6 ∷ entry f 7 ∷ no_timestamp ∷ [];
  count = f.count - 1;
}
