-- Why number 15 has its sentence. The time shown is the exact time without its remainder, so it reaches the end of the
-- last second exactly when the exact time does; and a preview's ticks bring what the formula has for them.
use Prim.Native.Nat.{ℕ, ◌+◌, ◌*◌, ◌-◌, ◌/◌, ◌^◌, ◌≤◌, ◌<◌, min}
use mathlib.Core.Path.{◌≡◌, refl, sym, ◌∙◌}
use mathlib.Core.Logic.{◌⊎◌, inl, inr, ⊎_elim}
use mathlib.Core.Bool.{true, false, ◌&&◌, ◌||◌}
use native.Mathlib.Decide.{ℕ_discrete}
use native.Mathlib.Nat.{min-zero, sub-zero, zero-mul}
use native.Mathlib.Omega.{arith}
use lib.Dec.{eqb, leb}
use borrow.Author.Tests as Test
use Rattle.model.specs.declared.Engine.{Engine}
use Rattle.model.specs.declared.Command.{Command}
use Rattle.model.specs.declared.Steering.{Steering}
use Rattle.model.specs.declared.Words.{Words}
use Rattle.model.specs.Words.{whole_in, frac_in, amount_in, below_frac, count_in}
use Rattle.model.specs.Clock.{shown, exact, end_of_time, cycle_amount, step_by, adjusted_by}
use Rattle.model.specs.Tick.{ends_in_time, in_time_for}
use Rattle.model.specs.OtherOps.{adjustment_in, adjust_written}
use Rattle.model.specs.Elapse.{amount_of}
use Rattle.model.specs.Checks.{is_op, writes, adjusts, writes_amount, ticks_first, is_ticking, in_time, checks, passes}
use Rattle.model.specs.Sentences.{Comes, end_exact, NextIsLate, added_behind}
use Rattle.model.proofs.Laws.Testing.{both, asked, or_right}
use Rattle.model.proofs.Laws.InRange.{Valid, valid_parts}
use Rattle.model.proofs.Laws.Valid.{adjust_written_valid}
use Rattle.model.proofs.Laws.Elapsed.{shown_after}
use Rattle.model.proofs.Laws.Rehearsed.{in_time_by}
use Rattle.model.proofs.Laws.Listed.{one_holds}
use Rattle.model.proofs.Laws.FailedRows.{row_fails, adjusts_ok, comes, Above}

-- the next tick
module _ (e : Engine) where
  late_by : (amount : ℕ) → cycle_amount e.steering ≡ amount → ends_in_time e ≡ false
      → end_exact ≤ exact e.clock + amount
  unfolding step_by
  late_by amount is h =
      let k = e.clock in
      let late = Test.ltb-false (shown k + (k.remainder + cycle_amount e.steering) / 2 ^ 24) end_of_time h in
      omega arith

  by_late : (amount : ℕ) → cycle_amount e.steering ≡ amount → end_exact ≤ exact e.clock + amount
      → ends_in_time e ≡ false
  unfolding step_by
  by_late amount is h =
      let k = e.clock in
      Test.le-ltb (shown k + (k.remainder + cycle_amount e.steering) / 2 ^ 24) end_of_time (omega arith)

  period_adds : e.steering.adjustment.cycles ≡ 0 → cycle_amount e.steering ≡ e.steering.period
  unfolding cycle_amount
  period_adds z = rw (Test.eq-eqb e.steering.adjustment.cycles 0 z) refl

  adjustment_adds : 0 < e.steering.adjustment.cycles → cycle_amount e.steering ≡ e.steering.adjustment.amount
  unfolding cycle_amount
  adjustment_adds some = rw (Test.ne_eqb e.steering.adjustment.cycles 0 (λ z. omega arith)) refl

  next_late : ends_in_time e ≡ false → NextIsLate e
  next_late h =
      elim (ℕ_discrete e.steering.adjustment.cycles 0) [
        | yes z ↦ inl (z, late_by _ (period_adds z) h)
        | no n ↦ let some : 0 < e.steering.adjustment.cycles = omega arith in
            inr (some, late_by _ (adjustment_adds some) h)
      ]

  late_next : NextIsLate e → ends_in_time e ≡ false
  late_next (inl h) = by_late _ (period_adds h.0) h.1
  late_next (inr h) = by_late _ (adjustment_adds h.0) h.1

-- the ticks of a preview: what they add, where the waiting place is free
amount_in_words : (w : Words) → amount_in w ≡ w.w5 * 2 ^ 24 + w.w4 * 2 ^ 8 + w.w3 / 2 ^ 8
unfolding amount_in whole_in frac_in
amount_in_words w = omega arith

-- an adjustment of which nothing is left adds nothing, before another or behind it
none_adds : (n m x p y z : ℕ)
    → min n m * x + (min (n - m) 0 * y + (n - m - 0) * p) ≡ min n 0 * z + (min (n - 0) m * x + (n - 0 - m) * p)
none_adds n m x p y z = simp (min-zero, zero-mul, sub-zero) (omega arith)

module _ (s : Steering) (w : Words) (free : s.waiting.cycles ≡ 0) (n : ℕ) where
  runs_at_once : s.adjustment.cycles ≡ 0
      → adjusted_by s (adjustment_in w)
      ≡ record { period = s.period; adjustment = adjustment_in w; waiting = s.waiting }
  unfolding adjusted_by
  runs_at_once z = rw (Test.eq-eqb s.adjustment.cycles 0 z) refl

  none_runs : s.adjustment.cycles ≡ 0 → amount_of (adjusted_by s (adjustment_in w)) n ≡ added_behind s w n
  unfolding amount_of count_in
  none_runs z =
      rw (runs_at_once z, z, free, amount_in_words)
      (none_adds n (count_in w) (w.w5 * 2 ^ 24 + w.w4 * 2 ^ 8 + w.w3 / 2 ^ 8) s.period s.waiting.amount
      s.adjustment.amount)

  one_runs : 0 < s.adjustment.cycles → amount_of (adjusted_by s (adjustment_in w)) n ≡ added_behind s w n
  unfolding amount_of adjusted_by count_in
  one_runs some = rw (Test.ne_eqb s.adjustment.cycles 0 (λ z. omega arith), amount_in_words) refl

  added : amount_of (adjusted_by s (adjustment_in w)) n ≡ added_behind s w n
  added =
      elim (ℕ_discrete s.adjustment.cycles 0) [
        | yes z ↦ none_runs z
        | no m ↦ one_runs (omega arith)
      ]

module _ (e : Engine) (c : Command) (above : Above e c 15) where
  copied : c.op ≡ 10 → Valid (adjust_written e)
  unfolding checks
  copied o =
      let one : adjusts c ≡ true = adjusts_ok c (inr o) in
      let test = leb 1 (whole_in e.words) && (adjusts c || eqb (below_frac e.words) 0) in
      let amount = asked (writes_amount c) test (above 9 (omega arith) (omega arith)) (or_right (writes 1 c) _ one) in
      let whole = (both (leb 1 (whole_in e.words)) _ amount).0 in
      let count = asked _ _ (above 10 (omega arith) (omega arith)) one in
      let free = asked _ _ (above 11 (omega arith) (omega arith)) one in
      adjust_written_valid e (valid_parts e (above 4 (omega arith) (omega arith))) (Test.leb-true 1 _ whole)
      (Test.leb-true 1 _ count) (Test.eqb-true _ 0 free)

  free_place : c.op ≡ 10 → e.steering.waiting.cycles ≡ 0
  unfolding checks
  free_place o =
      Test.eqb-true _ 0 (asked _ _ (above 11 (omega arith) (omega arith)) (adjusts_ok c (inr o)))

  -- the time shown behind the ticks
  abbrev reached : ℕ
  reached = (exact e.clock + amount_of (adjusted_by e.steering (adjustment_in e.words)) c.a) / 2 ^ 24

  preview_late : c.op ≡ 10 → in_time_for c.a (adjust_written e) ≡ false
      → end_exact ≤ exact e.clock + added_behind e.steering e.words c.a
  unfolding shown_after
  preview_late o h =
      let late = Test.ltb-false reached end_of_time (sym (in_time_by (adjust_written e) (copied o) c.a) ∙ h) in
      rw (← added e.steering e.words (free_place o) c.a) (omega arith)

  late_preview : c.op ≡ 10 → end_exact ≤ exact e.clock + added_behind e.steering e.words c.a
      → in_time_for c.a (adjust_written e) ≡ false
  unfolding shown_after
  late_preview o h =
      let late = rw (← added e.steering e.words (free_place o) c.a) at h in
      in_time_by (adjust_written e) (copied o) c.a ∙ Test.le-ltb reached end_of_time (omega arith)

module _ (e : Engine) (c : Command) where
  abbrev IsLate : Type 0
  IsLate =
      (((c.op ≡ 0) ⊎ (c.op ≡ 9)) × NextIsLate e)
      ⊎ ((c.op ≡ 10) × (end_exact ≤ exact e.clock + added_behind e.steering e.words c.a))

  first_late : (c.op ≡ 0) ⊎ (c.op ≡ 9) → in_time (is_op 10 c) e c.a ≡ false → IsLate
  first_late (inl o) h = inl (inl o, next_late e (rw o at h))
  first_late (inr o) h = inl (inr o, next_late e (rw o at h))

  is_late : Above e c 15 → is_ticking c ≡ true → in_time (is_op 10 c) e c.a ≡ false → IsLate
  is_late a t h =
      ⊎_elim
      (λ first.
      first_late (⊎_elim (λ o. inl (Test.eqb-true c.op 0 o)) (λ o. inr (Test.eqb-true c.op 9 o))
      (one_holds (is_op 0 c) (is_op 9 c) first)) h)
      (λ ten. let o = Test.eqb-true c.op 10 ten in inr (o, preview_late e c a o (rw o at h)))
      (one_holds (ticks_first c) (is_op 10 c) t)

  late_fails : Above e c 15 → IsLate → passes e c 15 ≡ false
  unfolding checks
  late_fails a (inl (inl o, h)) = rw o (late_next e h)
  late_fails a (inl (inr o, h)) = rw o (late_next e h)
  late_fails a (inr (o, h)) = rw o (late_preview e c a o h)

  pub number_15 : Comes 15 e c IsLate
  unfolding checks
  number_15 =
      comes e c 15 (omega arith) (omega arith) _
      (λ a h. let f = row_fails (is_ticking c) _ h in is_late a f.0 f.1)
      late_fails
