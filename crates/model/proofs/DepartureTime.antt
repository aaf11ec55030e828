-- Departure time in the correction field, in terms of `execute` alone. Document 02, A.7; sheet 000, 6.13.7.3.2. The
-- panel sends a Delay_Req with the field that op 11 returns, and when the Delay_Resp brings it back, op 12 has the
-- departure time from it and from a software second that was saved before.
use Prim.Native.Nat.{ℕ, ◌+◌, ◌*◌, ◌/◌, ◌%◌, ◌^◌, ◌≤◌, ◌<◌}
use mathlib.Core.Path.{◌≡◌, sym, ◌∙◌}
use mathlib.Core.Bool.{true}
use native.Mathlib.Omega.{arith}
use lib.IntN.{pos, ◌+ℤ◌}
use Rattle.model.specs.declared.Engine.{Engine}
use Rattle.model.specs.declared.Command.{Command}
use Rattle.model.specs.declared.Outcome.{Outcome}
use Rattle.model.specs.Units.{ns_per_second}
use Rattle.model.specs.Words.{five, time_words}
use Rattle.model.specs.Preview.{time_read}
use Rattle.model.specs.Departure.{signed, departure, seconds_of, depart_line, recover_line, field_in}
use Rattle.model.specs.Ranges.{valid}
use Rattle.model.specs.Execute.{execute}
use Rattle.model.proofs.Laws.Recovered as Law

-- op 11 with a field of 0 on the record at the departure, and op 12 with the number that its four words write and the
-- software second a, on the record when it is there
abbrev pub at_departure : Engine → Outcome
at_departure d = execute d (depart_line 0)

abbrev pub when_back : (d r : Engine) → ℕ → Outcome
when_back d r a = execute r (recover_line a (field_in (at_departure d).values))

-- both are accepted, and a time comes back, of s seconds and the ns of the departure
pub record ComesBack (d r : Engine) (a s : ℕ) : Type 0 where
  pub departs : (at_departure d).answer ≡ 0
  pub recovers : (when_back d r a).answer ≡ 0
  pub time : (when_back d r a).values ≡ time_words s d.clock.nanoseconds 0

back : (d r : Engine) → valid d ≡ true → valid r ≡ true → (a s : ℕ) → seconds_of a (departure d.clock) ≡ s → a ≤ s
    → s < 2 ^ 48
    → ComesBack d r a s
back d r v w a s to early end = record {
  departs = Law.departs_answer d v;
  recovers = Law.recovers_answer d v r w a s to early end;
  time = Law.recovers_time d v r w a s to early end;
}

-- "If the field began at zero, and the software second is the departure second or at most fifteen earlier, departure
-- seconds and ns come back exactly"
pub comes_back : (d r : Engine) → valid d ≡ true → valid r ≡ true → (a : ℕ)
    → a ≤ d.clock.seconds
    → d.clock.seconds ≤ a + 15
    → ComesBack d r a d.clock.seconds
comes_back d r v w a early late =
    back d r v w a _ (Law.to_departure d v a early late) early (Law.departure_in_time d v)

-- in the words that a TIME read at the departure returns
pub as_time_read : (d r : Engine) → valid d ≡ true → valid r ≡ true → (a : ℕ)
    → a ≤ d.clock.seconds
    → d.clock.seconds ≤ a + 15
    → (when_back d r a).values ≡ (execute d time_read).values
as_time_read d r v w a early late = (comes_back d r v w a early late).time ∙ sym (Law.time_words_read d v)

-- "A software second that is later is not covered": one to fifteen seconds later, what comes back is 16 s late. A
-- departure at 1,000,005 s comes back as 1,000,021 s where software says 1,000,006 (Examples/Departures.antt)
pub later_is_not_covered : (d r : Engine) → valid d ≡ true → valid r ≡ true → (a : ℕ)
    → d.clock.seconds < a
    → a ≤ d.clock.seconds + 15
    → d.clock.seconds + 16 < 2 ^ 48
    → ComesBack d r a (d.clock.seconds + 16)
later_is_not_covered d r v w a early late end =
    back d r v w a _ (Law.behind_departure d v a early late) (omega arith) end

-- whatever the field held, negative included: where op 11 is accepted, it adds the low four bits of the shown seconds
-- and the shown ns, in 2^-16 ns
pub adds_low_time : (e : Engine) (c : Command) → c.op ≡ 11 → (execute e c).answer ≡ 0
    → signed (field_in (execute e c).values)
    ≡ signed c.a +ℤ pos ((e.clock.seconds % 16 * ns_per_second + e.clock.nanoseconds) * 65536)
adds_low_time = Law.adds

-- "and returns four words, lowest first", of the number that they write; the fifth value is 0
pub lowest_first : (e : Engine) (c : Command) → c.op ≡ 11 → (execute e c).answer ≡ 0
    → let field = field_in (execute e c).values in
    (execute e c).values
    ≡ five (field % 65536) (field / 65536 % 65536) (field / 2 ^ 32 % 65536) (field / 2 ^ 48 % 65536) 0
lowest_first = Law.lowest_first

-- whatever the field of an accepted op 12 holds: its part below 1 ns is dropped, and its seconds take the place of the
-- software second's low four bits, with 16 more where they are below these
pub counts_on : (e : Engine) (c : Command) → c.op ≡ 12 → (execute e c).answer ≡ 0
    → c.a % 16 ≤ c.b / 65536 / ns_per_second
    → (execute e c).values
    ≡ time_words (c.a / 16 * 16 + c.b / 65536 / ns_per_second) (c.b / 65536 % ns_per_second) 0
counts_on = Law.counts_on

pub counts_around : (e : Engine) (c : Command) → c.op ≡ 12 → (execute e c).answer ≡ 0
    → c.b / 65536 / ns_per_second < c.a % 16
    → (execute e c).values
    ≡ time_words (c.a / 16 * 16 + 16 + c.b / 65536 / ns_per_second) (c.b / 65536 % ns_per_second) 0
counts_around = Law.counts_around

-- neither changes the record, accepted or refused
pub depart_changes_nothing : (e : Engine) (c : Command) → c.op ≡ 11 → (execute e c).engine ≡ e
depart_changes_nothing = Law.depart_unchanged

pub recover_changes_nothing : (e : Engine) (c : Command) → c.op ≡ 12 → (execute e c).engine ≡ e
recover_changes_nothing = Law.recover_unchanged
