-- The time that a preview shows. On its copy the adjust write moves the steering alone, and the ticks behind it bring
-- the clock to the exact time that the formula has; they end in time where that time does.
use Prim.Native.Nat.{ℕ, ◌+◌, ◌*◌, ◌/◌, ◌≤◌, ◌<◌, ◌^◌}
use mathlib.Core.Path.{◌≡◌, refl, sym, ap, ◌∙◌}
use mathlib.Core.Bool.{true}
use native.Mathlib.Omega.{arith}
use lib.Dec.{ltb}
use borrow.Author.Tests.{leb-true, eqb-true}
use Rattle.model.specs.declared.Engine.{Engine}
use Rattle.model.specs.declared.Adjustment.{Adjustment}
use Rattle.model.specs.declared.Clock.{Clock}
use Rattle.model.specs.declared.Command.{Command}
use Rattle.model.specs.declared.Steering.{Steering}
use Rattle.model.specs.Words.{time_words}
use Rattle.model.specs.Clock.{end_of_time, clock_at_exact, adjusted_by}
use Rattle.model.specs.Tick.{in_time_for}
use Rattle.model.specs.OtherOps.{adjustment_in, adjust_written, read_words}
use Rattle.model.specs.Preview.{rehearsed}
use Rattle.model.specs.Elapse.{amount_of}
use Rattle.model.specs.Ranges.{steering_ok}
use Rattle.model.proofs.Laws.InRange.{Valid, valid_parts, clock_in}
use Rattle.model.proofs.Laws.Valid.{adjust_written_valid}
use Rattle.model.proofs.Laws.Elapsed.{shown_after}
use Rattle.model.proofs.Laws.Rehearsed.{ticks_at, in_time_by}
use Rattle.elapse.specs.Seconds.{second, in_second}
use Rattle.elapse.proofs.Numbers.{amount_low, from_second}
use Rattle.preview.specs.Previews.{Previewing}
use Rattle.preview.proofs.Checked.{Passed, passed_before, few_ticks}

module _ (e : Engine) (c : Command) (p : Previewing e c) where
  passed : Passed e c
  passed = passed_before e c p.passed

  -- the steering of the copy, and what its ticks bring
  abbrev pub tried : Steering
  tried = adjusted_by e.steering (adjustment_in e.words)

  copied : Valid (adjust_written e)
  copied =
      adjust_written_valid e (valid_parts e p.on) (leb-true _ _ passed.whole) (leb-true _ _ passed.count)
      (eqb-true _ 0 passed.free)

  tried_ok : steering_ok tried ≡ true
  tried_ok = copied.steering

  few : c.a ≤ 1000000
  few = let n = few_ticks e c passed in omega arith

  pub asked : {j : Adjustment} {s : Steering} → j ≡ adjustment_in e.words → s ≡ adjusted_by e.steering j
      → (steering_ok s ≡ true) × (c.a ≤ 1000000)
  asked h₁ h₂ = rw (h₂, h₁) (tried_ok, few)

  -- the time behind them, from the start of the second shown: less than two seconds
  pub seconds_low : e.clock.seconds < 2 ^ 48
  seconds_low = (clock_in e.clock (valid_parts e p.on).clock).seconds

  pub after_low : in_second e.clock + amount_of tried c.a < 2 * second
  after_low =
      omega (arith, clock_in e.clock (valid_parts e p.on).clock, amount_low tried tried_ok c.a few)

  pub after_is : {j : Adjustment} {s : Steering} {here amount : ℕ} → j ≡ adjustment_in e.words
      → s ≡ adjusted_by e.steering j → here ≡ in_second e.clock → amount ≡ amount_of s c.a
      → here + amount ≡ in_second e.clock + amount_of tried c.a
  after_is h₁ h₂ h₃ h₄ = rw (h₄, h₃, h₂, h₁) refl

  pub in_time : ltb ((e.clock.seconds * second + (in_second e.clock + amount_of tried c.a)) / 2 ^ 24) end_of_time
      ≡ in_time_for c.a (adjust_written e)
  unfolding shown_after
  in_time =
      ap (λ (x : ℕ). ltb (x / 2 ^ 24) end_of_time) (from_second e.clock (amount_of tried c.a))
      ∙ sym (in_time_by (adjust_written e) copied c.a)

  pub shows : (k : Clock)
      → k ≡ clock_at_exact (e.clock.seconds * second + (in_second e.clock + amount_of tried c.a))
      → time_words k.seconds k.nanoseconds 0 ≡ read_words (rehearsed e c.a) 0
  unfolding read_words
  shows k is =
      let same : k ≡ (rehearsed e c.a).clock =
      is
      ∙ ap clock_at_exact (from_second e.clock (amount_of tried c.a))
      ∙ sym (ticks_at (adjust_written e) copied c.a).clock
      in
      ap (λ (x : Clock). time_words x.seconds x.nanoseconds 0) same
