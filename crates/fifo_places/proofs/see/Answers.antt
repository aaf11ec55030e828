-- A used place adds its three tests to those of what was seen, and any other the test for zero: the `|` of two numbers
-- is below a power of 2, or 0, just where both are.
use mathlib.Core.Path.{◌≡◌, refl}
use mathlib.Core.Bool.{Bool, true, false, ◌&&◌, ◌||◌, not, and_assoc, and_comm, and-true}
use Prim.Native.Nat.{ℕ}
use native.Mathlib.Decide.{dec_lt}
use native.Mathlib.Omega.{arith}
use lib.Bits.{bit_or}
use lib.Dec.{eqb, ltb, leb}
use borrow.Author.Tests.{lt-ltb, le-ltb, le-leb, lt-leb}
use Rattle.model.specs.declared.Timestamp.{Timestamp}
use Rattle.model.specs.Units.{ns_per_second}
use Rattle.model.specs.Ranges.{timestamp_ok}
use Rattle.fifo_places.specs.declared.Seen.{Seen}
use Rattle.fifo_places.specs.Fifos.{in_range}
use Rattle.fifo_places.proofs.Places.{and_left_comm}
use Rattle.fifo_places.proofs.Merged.{or_below, or_zero, or_flag}
use Rattle.fifo_places.proofs.see.Goals as goal

-- none is late just where none was and the next is not
not_late : (late : Bool) (m n : ℕ) → not (late || leb m n) ≡ (not late && ltb n m)
not_late true m n = refl
not_late false m n =
    elim (dec_lt n m) [
      | yes l ↦ rw (lt-leb m n l, lt-ltb n m l)
      | no l ↦ rw (le-leb m n (omega arith), le-ltb n m (omega arith))
    ]

-- the tests of what was seen, and then those of a place
apart : (late rest seconds rising s n r : Bool)
    → ((late && n) && (rest && ((seconds && s) && (rising && r))))
    ≡ ((late && (rest && (seconds && rising))) && (s && (n && r)))
apart late rest seconds rising s n r = simp (and_assoc, and_left_comm)

one_used : (s : Seen) (t : Timestamp)
    → in_range
    (record {
      seconds = bit_or s.seconds t.seconds;
      rising = bit_or s.rising t.rising;
      rest = s.rest;
      late = s.late || leb ns_per_second t.nanoseconds;
    })
    ≡ (in_range s && timestamp_ok t)
unfolding in_range timestamp_ok
one_used s t = simp (not_late, or_below 48, or_flag, and-true, apart)

one_other : (s : Seen) (bits : ℕ)
    → in_range (record { seconds = s.seconds; rising = s.rising; rest = bit_or s.rest bits; late = s.late })
    ≡ (in_range s && eqb bits 0)
unfolding in_range
one_other s bits = simp (or_zero, and_assoc, and_comm, and_left_comm)

pub returns-then-used : goal.returns-then-used
returns-then-used c =
    let test = c in
    let args = test.args in
    rw test.if-used.true (one_used args.s args.t)

pub returns : goal.returns
returns c =
    let test = c in
    let bits = c.bits_of in
    rw (test.if-used.false, ← bits.ensures) (one_other test.args.s bits.result)
