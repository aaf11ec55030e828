-- Ops 11 and 12. What op 11 adds is below 2^50, so it leaves 64 signed bits only at their upper end, and its four words
-- write its pattern; the seconds that are split off a field which began at zero are the departure's low four bits, and
-- with them any software second of the sixteen up to the departure counts on to it.
use Prim.Native.Nat.{ℕ, ◌+◌, ◌*◌, ◌/◌, ◌%◌, ◌^◌, ◌≤◌, ◌<◌}
use mathlib.Core.Path.{◌≡◌, refl, ap, ◌∙◌}
use mathlib.Core.Logic.{◌⊎◌}
use mathlib.Core.Bool.{true, false, not, and-false}
use native.Mathlib.Decide.{dec_le}
use native.Mathlib.Nat.{mod-eq_of_lt}
use native.Mathlib.Omega.{arith}
use lib.Dec.{leb}
use borrow.Author.Tests.{lt-ltb, le-ltb, lt-leb, le-leb}
use Rattle.model.specs.declared.Engine.{Engine}
use Rattle.model.specs.declared.Clock.{Clock}
use Rattle.model.specs.Departure
use Rattle.model.specs.Ops.{performed}
use Rattle.model.specs.Ranges.{valid}
use Rattle.model.specs.Bounds.{ClockRange, WordsRange}
use Rattle.model.specs.Fields.{fields_ok, field_tests}
use Rattle.model.specs.Checks.{checks, answer_of}
use Rattle.model.specs.Execute.{execute}
use Rattle.model.proofs.Laws.InRange.{valid_parts, clock_in}
use Rattle.model.proofs.Laws.Signed

-- the four words of a pattern write it
join_four : (p w1 a w2 b w3 q : ℕ) → p ≡ a * 2 ^ 16 + w1 → a ≡ b * 2 ^ 16 + w2 → b ≡ q * 2 ^ 16 + w3
    → w1 + w2 * 2 ^ 16 + w3 * 2 ^ 32 + q * 2 ^ 48 ≡ p
join_four p w1 a w2 b w3 q first second third = omega arith

pub four_words_write : (p : ℕ) → p < 2 ^ 64 → Departure.field_in (Departure.four_words p) ≡ p
four_words_write p low =
    let first : p ≡ p / 2 ^ 16 * 2 ^ 16 + p % 2 ^ 16 = omega arith in
    let second : p / 2 ^ 16 ≡ p / 2 ^ 32 * 2 ^ 16 + p / 2 ^ 16 % 2 ^ 16 = omega arith in
    let third : p / 2 ^ 32 ≡ p / 2 ^ 48 * 2 ^ 16 + p / 2 ^ 32 % 2 ^ 16 = omega arith in
    let fourth : p / 2 ^ 48 % 2 ^ 16 ≡ p / 2 ^ 48 = mod-eq_of_lt (omega arith) in
    rw fourth
    (join_four p (p % 2 ^ 16) (p / 2 ^ 16) (p / 2 ^ 16 % 2 ^ 16) (p / 2 ^ 32) (p / 2 ^ 32 % 2 ^ 16) (p / 2 ^ 48)
    first second third)

pub four_words_in : (p : ℕ) → WordsRange (Departure.four_words p)
four_words_in p = omega arith

pub departure_low : (k : Clock) → ClockRange k → Departure.departure k < 2 ^ 50
departure_low k r = omega (arith, r.nanoseconds)

module _ (e : Engine) (v : valid e ≡ true) where
  pub clock_range : ClockRange e.clock
  clock_range = clock_in e.clock (valid_parts e v).clock

  few : Departure.departure e.clock < 2 ^ 63
  few = omega (arith, departure_low e.clock clock_range)

  -- number 16
  module _ (field : ℕ) (low : field < 2 ^ 64) where
    pub stays : (2 ^ 63 ≤ field) ⊎ (field + Departure.departure e.clock < 2 ^ 63)
        → Departure.stays_signed e.clock field ≡ true
    unfolding Departure.stays_signed
    stays h = (Signed.sum_stays field (Departure.departure e.clock) low few h).0

    pub leaves : field < 2 ^ 63 → 2 ^ 63 ≤ field + Departure.departure e.clock
        → Departure.stays_signed e.clock field ≡ false
    unfolding Departure.stays_signed
    leaves h above = Signed.sum_leaves field (Departure.departure e.clock) low few h above

    pub left_where : Departure.stays_signed e.clock field ≡ false
        → (field < 2 ^ 63) × (2 ^ 63 ≤ field + Departure.departure e.clock)
    unfolding Departure.stays_signed
    left_where h = Signed.left_where field (Departure.departure e.clock) low few h

    -- the values of an accepted op 11, and the number that they write
    module _ (s : Departure.stays_signed e.clock field ≡ true) where
      pub departed_pattern : Departure.pattern_of (Departure.field_after e.clock field)
          ≡ (field + Departure.departure e.clock) % 2 ^ 64
      unfolding Departure.stays_signed
      departed_pattern = Signed.sum_pattern field (Departure.departure e.clock) low few s

      pub departed_writes : Departure.field_in (Departure.departed e field).values
          ≡ (field + Departure.departure e.clock) % 2 ^ 64
      unfolding Departure.departed
      departed_writes =
          ap (λ p. Departure.field_in (Departure.four_words p)) departed_pattern
          ∙ four_words_write ((field + Departure.departure e.clock) % 2 ^ 64) (omega arith)

      pub departed_adds : Departure.signed (Departure.field_in (Departure.departed e field).values)
          ≡ Departure.field_after e.clock field
      unfolding Departure.departed Departure.stays_signed
      departed_adds =
          let z = Departure.field_after e.clock field in
          ap Departure.signed (four_words_write (Departure.pattern_of z) (Signed.pattern_low z s))
          ∙ Signed.signed_pattern z s

      pub departs : execute e (Departure.depart_line field) ≡ Departure.departed e field
      unfolding execute answer_of checks fields_ok field_tests performed
      departs = rw (v, lt-ltb field (2 ^ 64) low, s) refl

  pub recovers : (a field : ℕ) → a < 2 ^ 48 → field < 2 ^ 64 → Departure.is_time a field ≡ true
      → execute e (Departure.recover_line a field) ≡ Departure.recovered e a field
  unfolding execute answer_of checks fields_ok field_tests performed
  recovers a field few low t = rw (v, lt-ltb a (2 ^ 48) few, lt-ltb field (2 ^ 64) low, t) refl

-- number 17
module _ (a field : ℕ) where
  pub is_time : field < 2 ^ 63 → Departure.seconds_of a field < 2 ^ 48 → Departure.is_time a field ≡ true
  unfolding Departure.is_time
  is_time h below = rw (lt-leb (2 ^ 63) field h, lt-ltb (Departure.seconds_of a field) (2 ^ 48) below) refl

  pub negative_is_none : 2 ^ 63 ≤ field → Departure.is_time a field ≡ false
  unfolding Departure.is_time
  negative_is_none h = rw (le-leb (2 ^ 63) field h)

  pub end_is_none : 2 ^ 48 ≤ Departure.seconds_of a field → Departure.is_time a field ≡ false
  unfolding Departure.is_time
  end_is_none h =
      rw (le-ltb (Departure.seconds_of a field) (2 ^ 48) h) (and-false (not (leb (2 ^ 63) field)))

  -- the seconds: a with the field's in the place of its low four bits, or with 16 more
  abbrev seconds : ℕ
  seconds = Departure.field_seconds field

  pub counted_on : a % 16 ≤ seconds → Departure.seconds_of a field ≡ a / 16 * 16 + seconds
  counted_on h = rw (le-ltb seconds (a % 2 ^ 4) h) (omega arith)

  pub counted_around : seconds < a % 16 → Departure.seconds_of a field ≡ a / 16 * 16 + 16 + seconds
  counted_around h = rw (lt-ltb seconds (a % 2 ^ 4) h) (omega arith)

-- a field that began at zero: its seconds are the departure's low four bits, its nanoseconds the departure's
module _ (k : Clock) (r : ClockRange k) where
  pub low_seconds : Departure.field_seconds (Departure.departure k) ≡ k.seconds % 16
  low_seconds = omega (arith, r.nanoseconds)

  pub same_nanoseconds : Departure.field_nanoseconds (Departure.departure k) ≡ k.nanoseconds
  same_nanoseconds = omega (arith, r.nanoseconds)

  -- so a second of the sixteen up to the departure counts on to it, and one of the fifteen behind it to 16 s later
  module _ (a : ℕ) where
    seconds_by : (s : ℕ) → s % 16 ≡ k.seconds % 16 → a ≤ s → s ≤ a + 15
        → Departure.seconds_of a (Departure.departure k) ≡ s
    seconds_by s same early late =
        elim (dec_le (a % 16) (k.seconds % 16)) [
          | yes h ↦ counted_on a (Departure.departure k) (rw low_seconds h) ∙ rw low_seconds (omega arith)
          | no h ↦
              counted_around a (Departure.departure k) (rw low_seconds (omega arith)) ∙ rw low_seconds (omega arith)
        ]

    pub departure_second : a ≤ k.seconds → k.seconds ≤ a + 15
        → Departure.seconds_of a (Departure.departure k) ≡ k.seconds
    departure_second early late = seconds_by k.seconds refl early late

    pub sixteen_late : k.seconds < a → a ≤ k.seconds + 15
        → Departure.seconds_of a (Departure.departure k) ≡ k.seconds + 16
    sixteen_late early late = seconds_by (k.seconds + 16) (omega arith) (omega arith) (omega arith)
