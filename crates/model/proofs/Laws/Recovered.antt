-- Ops 11 and 12 as commands. On a valid record each is accepted where its number does not come, and returns what its
-- definition says; so a departure time goes into a field of 0 whole and comes out of it whole.
use Prim.Native.Nat.{ℕ, ◌+◌, ◌*◌, ◌/◌, ◌%◌, ◌^◌, ◌≤◌, ◌<◌}
use mathlib.Core.Path.{◌≡◌, refl, sym, ap, ◌∙◌}
use mathlib.Core.Logic.{inr}
use mathlib.Core.Bool.{true}
use native.Mathlib.Omega.{arith}
use borrow.Author.Tests.{eq-eqb}
use Rattle.model.specs.declared.Engine.{Engine}
use Rattle.model.specs.declared.Command.{Command}
use Rattle.model.specs.declared.Outcome.{Outcome}
use Rattle.model.specs.Words.{time_words}
use Rattle.model.specs.OtherOps.{read_words}
use Rattle.model.specs.Preview.{time_read}
use Rattle.model.specs.Departure
use Rattle.model.specs.Ranges.{valid}
use Rattle.model.specs.Bounds.{ClockRange}
use Rattle.model.specs.Execute.{execute}
use Rattle.model.proofs.Laws.Listed.{listed_in}
use Rattle.model.proofs.Laws.Accepting.{by_answer, execute_accepted, performed_row}
use Rattle.model.proofs.Laws.Rehearsal.{time_read_lem}
use Rattle.model.proofs.Laws.Signed
use Rattle.model.proofs.Laws.Departures

-- accepted or refused, the record stays
pub depart_unchanged : (e : Engine) (c : Command) → c.op ≡ 11 → (execute e c).engine ≡ e
unfolding Departure.departed
depart_unchanged e c o =
    by_answer (λ (x : Outcome). x.engine ≡ e) e c
    (λ n. refl)
    (λ k. ap (λ (x : Outcome). x.engine) (performed_row e c 11 o))

pub recover_unchanged : (e : Engine) (c : Command) → c.op ≡ 12 → (execute e c).engine ≡ e
unfolding Departure.recovered
recover_unchanged e c o =
    by_answer (λ (x : Outcome). x.engine ≡ e) e c
    (λ n. refl)
    (λ k. ap (λ (x : Outcome). x.engine) (performed_row e c 12 o))

-- what an accepted op 11 has added
pub adds : (e : Engine) (c : Command) → c.op ≡ 11 → (execute e c).answer ≡ 0
    → Departure.signed (Departure.field_in (execute e c).values) ≡ Departure.field_after e.clock c.a
adds e c o h =
    let k = execute_accepted e c h in
    let is = ap (λ (x : Outcome). x.values) (k.1 ∙ performed_row e c 11 o) in
    ap (λ v. Departure.signed (Departure.field_in v)) is
    ∙ Departures.departed_adds e k.0.valid c.a ((listed_in c k.0.fields).depart o).0
    (k.0.check16 (eq-eqb c.op 11 o))

-- its values are the words of the number that they write
pub lowest_first : (e : Engine) (c : Command) → c.op ≡ 11 → (execute e c).answer ≡ 0
    → (execute e c).values ≡ Departure.four_words (Departure.field_in (execute e c).values)
unfolding Departure.departed Departure.stays_signed
lowest_first e c o h =
    let k = execute_accepted e c h in
    let is = ap (λ (x : Outcome). x.values) (k.1 ∙ performed_row e c 11 o) in
    let z = Departure.field_after e.clock c.a in
    let low = Signed.pattern_low z (k.0.check16 (eq-eqb c.op 11 o)) in
    rw is (ap Departure.four_words (sym (Departures.four_words_write (Departure.pattern_of z) low)))

-- the values of an accepted op 12, whatever its field
recover_values : (e : Engine) (c : Command) → c.op ≡ 12 → (execute e c).answer ≡ 0
    → (execute e c).values ≡ time_words (Departure.seconds_of c.a c.b) (Departure.field_nanoseconds c.b) 0
unfolding Departure.recovered
recover_values e c o h =
    let k = execute_accepted e c h in
    ap (λ (x : Outcome). x.values) (k.1 ∙ performed_row e c 12 o)

pub counts_on : (e : Engine) (c : Command) → c.op ≡ 12 → (execute e c).answer ≡ 0
    → c.a % 16 ≤ Departure.field_seconds c.b
    → (execute e c).values
    ≡ time_words (c.a / 16 * 16 + Departure.field_seconds c.b) (Departure.field_nanoseconds c.b) 0
counts_on e c o h on =
    recover_values e c o h
    ∙ ap (λ s. time_words s (Departure.field_nanoseconds c.b) 0) (Departures.counted_on c.a c.b on)

pub counts_around : (e : Engine) (c : Command) → c.op ≡ 12 → (execute e c).answer ≡ 0
    → Departure.field_seconds c.b < c.a % 16
    → (execute e c).values
    ≡ time_words (c.a / 16 * 16 + 16 + Departure.field_seconds c.b) (Departure.field_nanoseconds c.b) 0
counts_around e c o h around =
    recover_values e c o h
    ∙ ap (λ s. time_words s (Departure.field_nanoseconds c.b) 0) (Departures.counted_around c.a c.b around)

-- a departure with a field of 0
module _ (d : Engine) (v : valid d ≡ true) where
  -- what op 11 adds, and the number that its words write
  abbrev time : ℕ
  time = Departure.departure d.clock

  abbrev told : ℕ
  told = Departure.field_in (execute d (Departure.depart_line 0)).values

  range : ClockRange d.clock
  range = Departures.clock_range d v

  time_low : time < 2 ^ 50
  time_low = Departures.departure_low d.clock range

  stays : Departure.stays_signed d.clock 0 ≡ true
  stays = Departures.stays d v 0 (omega arith) (inr (omega (arith, time_low)))

  departs : execute d (Departure.depart_line 0) ≡ Departure.departed d 0
  departs = Departures.departs d v 0 (omega arith) stays

  pub departs_answer : (execute d (Departure.depart_line 0)).answer ≡ 0
  unfolding Departure.departed
  departs_answer = ap (λ (x : Outcome). x.answer) departs

  told_is : told ≡ time
  told_is =
      let whole : (0 + time) % 2 ^ 64 ≡ time = omega (arith, time_low) in
      ap (λ (x : Outcome). Departure.field_in x.values) departs
      ∙ Departures.departed_writes d v 0 (omega arith) stays
      ∙ whole

  -- and out of it, on any valid record, where a counts on to a second that there is
  module _ (r : Engine) (w : valid r ≡ true) (a s : ℕ) (to : Departure.seconds_of a time ≡ s) (early : a ≤ s)
      (end : s < 2 ^ 48)
    where
      recovers : execute r (Departure.recover_line a told) ≡ Departure.recovered r a time
      recovers =
          let below : Departure.seconds_of a time < 2 ^ 48 = rw to end in
          rw told_is
          (Departures.recovers r w a time (omega arith) (omega (arith, time_low))
          (Departures.is_time a time (omega (arith, time_low)) below))

      pub recovers_answer : (execute r (Departure.recover_line a told)).answer ≡ 0
      unfolding Departure.recovered
      recovers_answer = ap (λ (x : Outcome). x.answer) recovers

      pub recovers_time : (execute r (Departure.recover_line a told)).values ≡ time_words s d.clock.nanoseconds 0
      unfolding Departure.recovered
      recovers_time =
          ap (λ (x : Outcome). x.values) recovers ∙ rw (to, Departures.same_nanoseconds d.clock range) refl

  -- the second that a counts on to
  pub to_departure : (a : ℕ) → a ≤ d.clock.seconds → d.clock.seconds ≤ a + 15
      → Departure.seconds_of a time ≡ d.clock.seconds
  to_departure a early late = Departures.departure_second d.clock range a early late

  pub behind_departure : (a : ℕ) → d.clock.seconds < a → a ≤ d.clock.seconds + 15
      → Departure.seconds_of a time ≡ d.clock.seconds + 16
  behind_departure a early late = Departures.sixteen_late d.clock range a early late

  pub departure_in_time : d.clock.seconds < 2 ^ 48
  departure_in_time = range.seconds

  pub time_words_read : (execute d time_read).values ≡ time_words d.clock.seconds d.clock.nanoseconds 0
  unfolding read_words
  time_words_read = time_read_lem d v
