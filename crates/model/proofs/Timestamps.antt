-- Timestamps, for the reader of a certificate: how far one is from the instant of its edge, that the FIFO holds it, and
-- that those of one input never go back from edge to edge while no TIME write comes between. Document 02, A.2.
use Prim.Native.Nat.{ℕ, ◌+◌, ◌*◌, ◌≤◌, ◌<◌}
use native.Mathlib.Omega.{arith}
use mathlib.Core.Path.{◌≡◌, refl}
use mathlib.Core.Logic.{◌≢◌}
use mathlib.Core.List.{List}
use mathlib.Core.Bool.{true, false}
use lib.ListN.{length}
use borrow.Author.Tests.{leb-false}
use Rattle.model.specs.declared.Engine.{Engine}
use Rattle.model.specs.declared.Command.{Command}
use Rattle.model.specs.declared.Fifo.{Fifo}
use Rattle.model.specs.declared.Timestamp.{Timestamp}
use Rattle.model.specs.Clock.{end_of_time}
use Rattle.model.specs.Edges.{code_rising}
use Rattle.model.specs.Fifo.{last_nanosecond, timestamp_ns, timestamp_at, is_full, entry}
use Rattle.model.specs.Execute.{execute}
use Rattle.model.specs.TimestampsOn.{code_on, fifo_on, brings_edge, edge_instant, edge_ns}
use Rattle.model.specs.TimestampsOn.{timestamps_on, keeps_time, Ascending}
use Rattle.model.proofs.Laws.FifoPlaces.{read_stored, others_kept}
use Rattle.model.proofs.Laws.NeverBack as Law

-- In 1/2048 ns: x is the instant, A + p × S / 8, and t its timestamp. Late by half a nanosecond at most, and early by
-- less than that: so an instant just between two goes upward.
pub record Nearest (x t : ℕ) : Type 0 where
  pub late : 2048 * t ≤ x + 1024
  pub early : x < 2048 * t + 1024

pub nearest : (a s p : ℕ) → 8 * a + p * s + 1024 < 8 * end_of_time → Nearest (8 * a + p * s) (timestamp_ns a s p)
nearest a s p h = record { late = Law.half_late a s p; early = Law.below_half_early a s p (omega (arith, h)) }

-- within the last half nanosecond of all time it is the last one, and less than a nanosecond early
pub record AtTheEnd (x t : ℕ) : Type 0 where
  pub is : t ≡ last_nanosecond
  pub early : x < 2048 * t + 2048

pub at_the_end : (a s p : ℕ) → 8 * end_of_time ≤ 8 * a + p * s + 1024 → 8 * a + p * s < 8 * end_of_time
    → AtTheEnd (8 * a + p * s) (timestamp_ns a s p)
at_the_end a s p from to =
    let last = Law.last_at_the_end a s p (omega (arith, from)) in
    record { is = last; early = omega (arith, last, to) }

-- the instant of an accepted edge is before the end of time, so that it is of one kind or the other
pub in_time : (i : ℕ) (e : Engine) (c : Command) → brings_edge i e c ≡ true → edge_instant i e c < 8 * end_of_time
in_time = Law.before_the_end

-- a FIFO before and after: one timestamp more, behind the others, which stay
pub record StoredBehind (before after : Fifo) (t : Timestamp) : Type 0 where
  pub one_more : after.count ≡ before.count + 1
  pub there : entry after before.count ≡ t
  pub others : (j : ℕ) → j ≢ before.count → entry after j ≡ entry before j

-- an edge that finds room is stored so, with this timestamp and its direction (the record's array has eight places)
pub stored : (i : ℕ) (e : Engine) (c : Command) → brings_edge i e c ≡ true → is_full (fifo_on i e) ≡ false
    → length (fifo_on i e).entries ≡ 8
    → StoredBehind (fifo_on i e) (fifo_on i (execute e c).engine)
    (timestamp_at (edge_ns i e c) (code_rising (code_on i c)))
stored i e c edge room eight =
    let f = fifo_on i e in
    let t = timestamp_at (edge_ns i e c) (code_rising (code_on i c)) in
    let in_it : f.count < length f.entries = omega (arith, leb-false, eight) in
    rw (Law.stores i e c edge room)
    (record { one_more = refl; there = read_stored f t in_it; others = others_kept f t })

-- from every record and through every list, refused commands included
pub never_back : (i : ℕ) (e : Engine) (cs : List Command) → keeps_time e cs ≡ true → Ascending (timestamps_on i e cs)
never_back = Law.ascending
