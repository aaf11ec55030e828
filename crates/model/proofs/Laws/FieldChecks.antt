-- Why numbers 16 and 17 have their sentences. What op 11 adds is never negative, so only a field that is not negative
-- can leave 64 signed bits with it; and op 12's seconds are a with its low four bits replaced, or 16 more.
use Prim.Native.Nat.{ℕ, ◌/◌, ◌%◌, ◌^◌, ◌≤◌, ◌<◌}
use mathlib.Core.Path.{◌≡◌}
use mathlib.Core.Logic.{◌⊎◌, inl, inr, ⊎_elim}
use mathlib.Core.Bool.{true, false, not}
use native.Mathlib.Decide.{dec_le}
use native.Mathlib.Omega.{arith}
use lib.Dec.{leb, ltb}
use borrow.Author.Tests as Test
use Rattle.model.specs.declared.Engine.{Engine}
use Rattle.model.specs.declared.Command.{Command}
use Rattle.model.specs.Units.{ns_per_second}
use Rattle.model.specs.Departure
use Rattle.model.specs.Ranges.{valid}
use Rattle.model.specs.Checks.{is_op, checks}
use Rattle.model.specs.Sentences.{Comes, LeavesSigned, ReachesEnd}
use Rattle.model.proofs.Laws.Departures.{leaves, left_where, counted_on, counted_around, negative_is_none}
use Rattle.model.proofs.Laws.Departures.{end_is_none}
use Rattle.model.proofs.Laws.FailedRows.{row_fails, fails_row, one_fails, Above, comes, listed}

module _ (a field : ℕ) where
  abbrev NoTime : Type 0
  NoTime = (2 ^ 63 ≤ field) ⊎ ReachesEnd a (field / 65536 / ns_per_second)

  reaches : ReachesEnd a (field / 65536 / ns_per_second) → 2 ^ 48 ≤ Departure.seconds_of a field
  reaches (inl h) = rw (counted_on a field h.0) h.1
  reaches (inr h) = rw (counted_around a field h.0) h.1

  reached : 2 ^ 48 ≤ Departure.seconds_of a field → ReachesEnd a (field / 65536 / ns_per_second)
  reached h =
      elim (dec_le (a % 16) (field / 65536 / ns_per_second)) [
        | yes on ↦ inl (on, rw (counted_on a field on) at h)
        | no around ↦
            let below : field / 65536 / ns_per_second < a % 16 = omega arith in
            inr (below, rw (counted_around a field below) at h)
      ]

  no_time : NoTime → Departure.is_time a field ≡ false
  no_time (inl h) = negative_is_none a field h
  no_time (inr h) = end_is_none a field (reaches h)

  time_not : Departure.is_time a field ≡ false → NoTime
  unfolding Departure.is_time
  time_not h =
      ⊎_elim
      (λ n. inl (Test.leb-true (2 ^ 63) field (Test.not-false _ n)))
      (λ n. inr (reached (Test.ltb-false (Departure.seconds_of a field) (2 ^ 48) n)))
      (one_fails (not (leb (2 ^ 63) field)) (ltb (Departure.seconds_of a field) (2 ^ 48)) h)

module _ (e : Engine) (c : Command) where
  on : {n : ℕ} → 4 < n → Above e c n → valid e ≡ true
  unfolding checks
  on l a = a 4 (omega arith) l

  field_low : {n : ℕ} → 6 < n → Above e c n → c.op ≡ 11 → c.a < 2 ^ 64
  field_low l a o = ((listed e c l a).depart o).0

  pub number_16 : Comes 16 e c ((c.op ≡ 11) × LeavesSigned e c.a)
  unfolding checks
  number_16 =
      comes e c 16 (omega arith) (omega arith) _
      (λ a h.
      let f = row_fails (is_op 11 c) (Departure.stays_signed e.clock c.a) h in
      let o = Test.eqb-true c.op 11 f.0 in
      (o, left_where e (on (omega arith) a) c.a (field_low (omega arith) a o) f.1))
      (λ a h.
      fails_row (is_op 11 c) _ (Test.eq-eqb c.op 11 h.0)
      (leaves e (on (omega arith) a) c.a (field_low (omega arith) a h.0) h.1.0 h.1.1))

  pub number_17 : Comes 17 e c ((c.op ≡ 12) × ((2 ^ 63 ≤ c.b) ⊎ ReachesEnd c.a (c.b / 65536 / ns_per_second)))
  unfolding checks
  number_17 =
      comes e c 17 (omega arith) (omega arith) _
      (λ a h.
      let f = row_fails (is_op 12 c) (Departure.is_time c.a c.b) h in
      (Test.eqb-true c.op 12 f.0, time_not c.a c.b f.1))
      (λ a h. fails_row (is_op 12 c) _ (Test.eq-eqb c.op 12 h.0) (no_time c.a c.b h.1))
