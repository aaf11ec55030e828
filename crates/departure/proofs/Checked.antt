-- Op 11 or 12 on a valid record has the check of its fields and its own number; no other check of the table speaks of
-- it. It changes nothing, accepted or refused.
use Rattle.std.proofs.Common.{◌≡◌, ℕ, ◌+◌, ◌-◌, ◌%◌, ◌^◌, ◌<◌, ◌≤◌, Bool, true, false, cond, ltb, sym, ◌∙◌, refl}
use Rattle.std.proofs.Common.{arith, Ok, Err}
use Rattle.std.proofs.Common.{ltb-true}
use Rattle.model.specs.declared.Engine.{Engine}
use Rattle.model.specs.declared.Command.{Command}
use Rattle.model.specs.Tests.{every}
use Rattle.model.specs.Words.{time_words}
use Rattle.model.specs.Departure
use Rattle.model.specs.Ops.{performed}
use Rattle.model.specs.Ranges.{valid}
use Rattle.model.specs.Fields.{depart_fields, recover_fields, fields_ok, field_tests}
use Rattle.model.specs.Checks.{answer_of, checks}
use Rattle.model.specs.Execute.{execute}
use Rattle.model.proofs.Laws.Testing.{facts}
use Rattle.model.proofs.Laws.Departures as Law
use Rattle.change.specs.declared.refusal.Refusal.TheVariants.{Fields, FieldFull, NoDeparture}
use Rattle.change.specs.Changes.{change_to, Gives}
use Rattle.change.proofs.Given.{refusal_gives, others_still}

module _ (e : Engine) (c : Command) (v : valid e ≡ true) (o : c.op ≡ 11) where
  depart_answer : answer_of e c
      ≡ cond (every (depart_fields c)) (cond (Departure.stays_signed e.clock c.a) 0 16) 6
  unfolding answer_of checks fields_ok field_tests
  depart_answer = rw (v, o) refl

  pub depart_unlisted : every (depart_fields c) ≡ false → Gives e c (execute e c) (Err Fields)
  depart_unlisted f = refusal_gives e c Fields (sym (depart_answer ∙ rw f refl))

  module _ (f : every (depart_fields c) ≡ true) where
    pub field_low : c.a < 2 ^ 64
    field_low = ltb-true c.a (2 ^ 64) (facts (depart_fields c) f).0

    pub depart_left : Departure.stays_signed e.clock c.a ≡ false
        → Gives e c (execute e c) (Err FieldFull)
    depart_left s = refusal_gives e c FieldFull (sym (depart_answer ∙ rw (f, s) refl))

    pub depart_gives : Departure.stays_signed e.clock c.a ≡ true
        → Gives e c (execute e c)
        (Ok (change_to (Departure.four_words ((c.a + Departure.departure e.clock) % 2 ^ 64)) e false))
    unfolding execute performed Departure.departed
    depart_gives s = record {
      is = rw (← Law.departed_pattern e v c.a field_low s, depart_answer, f, s, o) refl;
      moving = sym (others_still e c (rw o refl) (rw o refl));
    }

-- the seconds of a field count on by less than 2^49
pub since_low : (a seconds : ℕ) → seconds < 2 ^ 48 → Departure.seconds_since a seconds < 2 ^ 49
since_low a seconds h = by (ltb seconds (a % 2 ^ 4))
  where
    by : (t : Bool) → cond t (seconds + 16 - a % 2 ^ 4) (seconds - a % 2 ^ 4) < 2 ^ 49
    by true = omega arith
    by false = omega arith

module _ (e : Engine) (c : Command) (v : valid e ≡ true) (o : c.op ≡ 12) where
  recover_answer : answer_of e c
      ≡ cond (every (recover_fields c)) (cond (Departure.is_time c.a c.b) 0 17) 6
  unfolding answer_of checks fields_ok field_tests
  recover_answer = rw (v, o) refl

  pub recover_unlisted : every (recover_fields c) ≡ false → Gives e c (execute e c) (Err Fields)
  recover_unlisted f = refusal_gives e c Fields (sym (recover_answer ∙ rw f refl))

  module _ (f : every (recover_fields c) ≡ true) where
    pub software_low : c.a < 2 ^ 48
    software_low = ltb-true c.a (2 ^ 48) (facts (recover_fields c) f).0

    no_time : Departure.is_time c.a c.b ≡ false → Gives e c (execute e c) (Err NoDeparture)
    no_time t = refusal_gives e c NoDeparture (sym (recover_answer ∙ rw (f, t) refl))

    pub recover_negative : 2 ^ 63 ≤ c.b → Gives e c (execute e c) (Err NoDeparture)
    recover_negative h = no_time (Law.negative_is_none c.a c.b h)

    pub recover_at_the_end : 2 ^ 48 ≤ Departure.seconds_of c.a c.b
        → Gives e c (execute e c) (Err NoDeparture)
    recover_at_the_end h = no_time (Law.end_is_none c.a c.b h)

    pub recover_gives : c.b < 2 ^ 63 → Departure.seconds_of c.a c.b < 2 ^ 48
        → Gives e c (execute e c)
        (Ok (change_to (time_words (Departure.seconds_of c.a c.b) (Departure.field_nanoseconds c.b) 0) e false))
    unfolding execute performed Departure.recovered
    recover_gives h below = record {
      is = rw (recover_answer, f, Law.is_time c.a c.b h below, o) refl;
      moving = sym (others_still e c (rw o refl) (rw o refl));
    }
