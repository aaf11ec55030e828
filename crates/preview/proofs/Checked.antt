-- A preview on a valid record has the checks of its fields, of the adjust write and of its ticks; no other check of the
-- table speaks of op 10. It changes nothing, accepted or refused.
use Prim.Native.Nat.{ℕ, ◌≤◌}
use mathlib.Core.Path.{◌≡◌, refl, sym, ◌∙◌}
use mathlib.Core.Bool.{Bool, true, false, ◌&&◌, cond}
use native.Mathlib.Omega.{arith}
use lib.Dec.{eqb, leb}
use borrow.Author.Tests.{leb-true}
use Rattle.model.specs.declared.Engine.{Engine}
use Rattle.model.specs.declared.Command.{Command}
use Rattle.model.specs.Tests.{every}
use Rattle.model.specs.Words.{whole_in, count_in}
use Rattle.model.specs.Tick.{in_time_for}
use Rattle.model.specs.OtherOps.{adjust_written, read_words}
use Rattle.model.specs.Preview.{rehearsed, previewed}
use Rattle.model.specs.Ops.{performed}
use Rattle.model.specs.Ranges.{valid}
use Rattle.model.specs.Fields.{preview_fields, fields_ok, field_tests}
use Rattle.model.specs.Checks.{answer_of, checks}
use Rattle.model.specs.Execute.{execute}
use Rattle.model.specs.Bounds.{WordsRange}
use Rattle.model.proofs.Laws.InRange.{valid_parts, words_in}
use Rattle.model.proofs.Laws.Testing.{facts}
use Rattle.std.specs.Prelude.{Ok, Err}
use Rattle.change.specs.declared.refusal.Refusal.{Refusal}
use Rattle.change.specs.declared.refusal.Refusal.TheVariants.{TimeOver}
use Rattle.change.specs.Refusals.{number_of}
use Rattle.change.specs.Changes.{change_to, Gives}
use Rattle.change.proofs.Given.{number_some, refusal_gives, others_still}
use Rattle.preview.specs.Previews.{refusal_before}

pub words_within : (e : Engine) → valid e ≡ true → WordsRange e.words
words_within e v = words_in e.words (valid_parts e v).words

-- what a preview with no refusal before its ticks has passed
pub record Passed (e : Engine) (c : Command) : Type 0 where
  pub fields : every (preview_fields c) ≡ true
  pub whole : leb 1 (whole_in e.words) ≡ true
  pub count : leb 1 (count_in e.words) ≡ true
  pub free : eqb e.steering.waiting.cycles 0 ≡ true

pub passed_before : (e : Engine) (c : Command) → refusal_before e c ≡ 0 → Passed e c
unfolding refusal_before
passed_before e c h =
    by (every (preview_fields c)) (leb 1 (whole_in e.words)) (leb 1 (count_in e.words))
    (eqb e.steering.waiting.cycles 0) refl refl refl refl h
  where
    by : (f w n g : Bool) → every (preview_fields c) ≡ f → leb 1 (whole_in e.words) ≡ w
        → leb 1 (count_in e.words) ≡ n → eqb e.steering.waiting.cycles 0 ≡ g
        → ◌≡◌ {A = ℕ} (cond f (cond w (cond n (cond g 0 11) 10) 9) 6) 0
        → Passed e c
    by true true true true p q r s h = record { fields = p; whole = q; count = r; free = s }
    by true true true false p q r s h = absurd (omega arith)
    by true true false g p q r s h = absurd (omega arith)
    by true false n g p q r s h = absurd (omega arith)
    by false w n g p q r s h = absurd (omega arith)

pub few_ticks : (e : Engine) (c : Command) → Passed e c → c.a ≤ 1000
few_ticks e c p = leb-true c.a 1000 (facts (preview_fields c) p.fields).1.0

-- the tests one after the other: the first that fails, and the ticks where none does
first_of_tests : (f w n g : Bool) (late : ℕ)
    → cond f (cond (w && true) (cond n (cond g late 11) 10) 9) 6
    ≡ cond (eqb (cond f (cond w (cond n (cond g 0 11) 10) 9) 6) 0) late (cond f (cond w (cond n (cond g 0 11) 10) 9) 6)
first_of_tests true true true true late = refl
first_of_tests true true true false late = refl
first_of_tests true true false g late = refl
first_of_tests true false n g late = refl
first_of_tests false w n g late = refl

module _ (e : Engine) (c : Command) (v : valid e ≡ true) (o : c.op ≡ 10) where
  preview_answer : answer_of e c
      ≡ cond (eqb (refusal_before e c) 0) (cond (in_time_for c.a (adjust_written e)) 0 15) (refusal_before e c)
  unfolding answer_of checks fields_ok field_tests refusal_before
  preview_answer =
      rw (v, o)
      (first_of_tests (every (preview_fields c)) (leb 1 (whole_in e.words)) (leb 1 (count_in e.words))
      (eqb e.steering.waiting.cycles 0) _)

  pub refused_before : (r : Refusal) → number_of r ≡ refusal_before e c → Gives e c (execute e c) (Err r)
  refused_before r is =
      refusal_gives e c r (is ∙ sym (preview_answer ∙ rw (← is, number_some r, is) refl))

  module _ (p : refusal_before e c ≡ 0) where
    pub late_refused : in_time_for c.a (adjust_written e) ≡ false → Gives e c (execute e c) (Err TimeOver)
    late_refused t = refusal_gives e c TimeOver (sym (preview_answer ∙ rw (p, t) refl))

    pub shown_gives : in_time_for c.a (adjust_written e) ≡ true
        → Gives e c (execute e c) (Ok (change_to (read_words (rehearsed e c.a) 0) e false))
    unfolding execute performed previewed
    shown_gives t = record {
      is = rw (preview_answer, p, t, o) refl;
      moving = sym (others_still e c (rw o refl) (rw o refl));
    }
