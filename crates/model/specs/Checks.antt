-- The table of document 01, "Where each command is checked": checks run from the top, and the first that fails is the
-- answer. Number 11 is document 02's, A.4: the waiting place is taken. Op 10 has the checks of what it does on its copy
-- (A.5): 9 to 11 as an adjust write, and 15 where one of its ticks would get it. Numbers 16 and 17 are A.7's.
use Rattle.std.specs.Prelude.{ℕ, ◌+◌, ◌*◌, ◌-◌, ◌<◌, ◌≤◌, ◌≡◌, List, [], ◌∷◌, map, Bool, true, false, ◌&&◌, ◌||◌, not}
use Rattle.std.specs.Prelude.{eqb, leb, ltb, length}
use Rattle.model.specs.declared.Engine.{Engine}
use Rattle.model.specs.declared.Command.{Command}
use Rattle.model.specs.Units.{ns_per_second}
use Rattle.model.specs.Tests.{Check, check, holds_at, first_failed}
use Rattle.model.specs.Words.{nanoseconds_in, above_nanoseconds, whole_in, below_frac, count_in}
use Rattle.model.specs.Clock.{shown}
use Rattle.model.specs.Fifo.{is_empty}
use Rattle.model.specs.Generator.{is_running}
use Rattle.model.specs.Record.{fifo, generator}
use Rattle.model.specs.Tick.{ends_in_time, in_time_for}
use Rattle.model.specs.OtherOps.{adjust_written}
use Rattle.model.specs.Departure.{stays_signed, is_time}
use Rattle.model.specs.Ops.{ops}
use Rattle.model.specs.Ranges.{valid}
use Rattle.model.specs.Fields.{fields_ok}

-- an op of the table of ops
abbrev pub is_known : Command → Bool
is_known c = ltb c.op (length ops)

abbrev pub is_op : ℕ → Command → Bool
is_op n c = eqb c.op n

-- op 2 with a read of a timestamp FIFO
abbrev pub reads_fifo : Command → Bool
reads_fifo c = is_op 2 c && leb 1 c.b && leb c.b 3

-- op 2 with a write of selector n: 0 TIME, 1 PERIOD, 2 adjust
abbrev pub writes : ℕ → Command → Bool
writes n c = is_op 2 c && eqb c.a n

-- an adjust write: op 2's, or the one that op 10 does on its copy (document 02, A.5)
abbrev pub adjusts : Command → Bool
adjusts c = writes 2 c || is_op 10 c

abbrev pub writes_amount : Command → Bool
writes_amount c = writes 1 c || adjusts c

-- an op that begins with a tick: op 0, and op 9, which gets 15 "if the very first would" (document 02, A.1)
abbrev pub ticks_first : Command → Bool
ticks_first c = is_op 0 c || is_op 9 c

-- or that ticks on its copy: op 10 (document 02, A.5)
abbrev pub is_ticking : Command → Bool
is_ticking c = ticks_first c || is_op 10 c

-- what 15 asks: that the first tick ends in time, or each of a preview's (document 02, A.5)
abbrev pub in_time : (preview : Bool) → Engine → ℕ → Bool
in_time true e a = in_time_for a (adjust_written e)
in_time false e a = ends_in_time e

abbrev pub always : Command → Bool
always c = true

-- a row of the table: its number, the commands that it applies to, and what it asks
pub record Row : Type 0 where
  pub number : ℕ
  pub applies : Command → Bool
  pub asks : Engine → Command → Bool

abbrev pub row : ℕ → (Command → Bool) → (Engine → Command → Bool) → Row
row n applies asks = record { number = n; applies = applies; asks = asks }

abbrev pub record_row : Row
record_row = row 4 always (λ e c. valid e)

abbrev pub later_rows : List Row
later_rows =
    row 5 always (λ e c. is_known c)
    ∷ row 6 always (λ e c. fields_ok c)
    ∷ row 7 reads_fifo (λ e c. not (is_empty (fifo e c.b)))
    ∷ row 8 (writes 0) (λ e c. leb (nanoseconds_in e.words) 999999999 && eqb (above_nanoseconds e.words) 0)
    ∷ row 9 writes_amount (λ e c. leb 1 (whole_in e.words) && (adjusts c || eqb (below_frac e.words) 0))
    ∷ row 10 adjusts (λ e c. leb 1 (count_in e.words))
    ∷ row 11 adjusts (λ e c. eqb e.steering.waiting.cycles 0)
    ∷ row 12 (is_op 3) (λ e c. ltb c.e c.f)
    ∷ row 13 (is_op 3) (λ e c. not (is_running (generator e c.a)))
    ∷ row 14 (is_op 3) (λ e c. leb (shown e.clock) ((c.b * ns_per_second + c.c) * 256))
    ∷ row 15 is_ticking (λ e c. in_time (is_op 10 c) e c.a)
    ∷ row 16 (is_op 11) (λ e c. stays_signed e.clock c.a)
    ∷ row 17 (is_op 12) (λ e c. is_time c.a c.b)
    ∷ []

abbrev pub table : List Row
table = record_row ∷ later_rows

-- the rows are numbered from 4 on
abbrev pub last_number : ℕ
last_number = 3 + length table

-- the rows on a record and a command
abbrev pub checked : Engine → Command → List Row → List Check
checked e c rows = map (λ r. check r.number (r.applies c) (r.asks e c)) rows

unfoldable pub checks : Engine → Command → List Check
checks e c = checked e c table

unfoldable pub answer_of : Engine → Command → ℕ
answer_of e c = first_failed (checks e c)

-- whether check n of the table holds
abbrev pub passes : Engine → Command → ℕ → Bool
passes e c n = holds_at (checks e c) (n - 4)

-- "a number has no other cause": check n fails, and every check above it passes
pub record Cause (e : Engine) (c : Command) (n : ℕ) : Type 0 where
  pub fails : passes e c n ≡ false
  pub above : (m : ℕ) → 4 ≤ m → m < n → passes e c m ≡ true
