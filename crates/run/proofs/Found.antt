-- The stretch that the code finds is the run: the ticks before the end of time, up to the earlier of the two edges. The
-- tick of a generator's edge tells from which tick on it is due, and none where it is not due by the end.
use Prim.Native.Nat.{ℕ, suc, ◌-◌, ◌≤◌, ◌<◌, min}
use mathlib.Core.Path.{◌≡◌, refl, ap, ◌∙◌}
use mathlib.Core.Bool.{true, false, ◌||◌}
use native.Mathlib.Decide.{dec_le}
use Rattle.std.proofs.Common.{Option, Some, None, ◌⊎◌, inl, inr}
use Rattle.std.proofs.lemmas.Option.{none-some}
use native.Mathlib.Omega.{arith}
use borrow.Author.Tests.{le-leb, lt-leb}
use Rattle.model.specs.declared.Engine.{Engine}
use Rattle.model.specs.declared.Generator.{Generator}
use Rattle.model.specs.Clock.{shown, end_of_time}
use Rattle.model.specs.Tick.{no_inputs}
use Rattle.model.specs.RunLine.{one_tick, run}
use Rattle.model.specs.Elapse.{amount_of, elapsed}
use Rattle.model.specs.Ranges.{generator_ok}
use Rattle.model.proofs.Laws.InRange.{Valid}
use Rattle.model.proofs.Laws.Testing.{or_right}
use Rattle.model.proofs.Laws.Elapsed.{shown_after, is_due_by, Quiet, shown_grows, not_due_earlier}
use Rattle.reach.specs.Reach.{edge_tick, ticks_in_time}
use Rattle.elapse.proofs.Numbers.{amount_low}
use Rattle.reach.proofs.Edges.{edge_none, edge_some, TimeFor, time_for}
use Rattle.tick.specs.Ticks.{Ticks}
use Rattle.run.specs.Runs.{earliest, quietly}
use Rattle.run.proofs.Formula.{elapsed_ticks, run_passes, run_meets}

-- no earlier one: neither is there
none_both : (a b : Option ℕ) → earliest a b ≡ None → (a ≡ None) × (b ≡ None)
none_both None b h = (refl, h)
none_both (Some a) None h = absurd (cc)
none_both (Some a) (Some b) h = absurd (cc)

-- the earlier one is one of the two, and neither is before it
record First (a b : Option ℕ) (t : ℕ) : Type 0 where
  is : (a ≡ Some t) ⊎ (b ≡ Some t)
  not1 : (u : ℕ) → a ≡ Some u → t ≤ u
  not2 : (u : ℕ) → b ≡ Some u → t ≤ u

same : (x y : ℕ) → ◌≡◌ {A = Option ℕ} (Some x) (Some y) → x ≡ y
same x y h = cc

earliest_is : (a b : Option ℕ) (t : ℕ) → earliest a b ≡ Some t → First a b t
earliest_is None None t h = absurd (cc)
earliest_is None (Some b) t h = record {
  is = inr h;
  not1 = λ u q. absurd (none-some u q);
  not2 = λ u q. omega (arith, same b t h, same b u q);
}
earliest_is (Some a) None t h = record {
  is = inl h;
  not1 = λ u q. omega (arith, same a t h, same a u q);
  not2 = λ u q. absurd (none-some u q);
}
earliest_is (Some a) (Some b) t h = record {
  is = of_two (dec_le a b);
  not1 = λ u q. omega (arith, same (min a b) t h, same a u q);
  not2 = λ u q. omega (arith, same (min a b) t h, same b u q);
}
  where
    of_two : Dec (a ≤ b) → (◌≡◌ {A = Option ℕ} (Some a) (Some t)) ⊎ (◌≡◌ {A = Option ℕ} (Some b) (Some t))
    of_two (yes l) = inl (ap Some (omega (arith, same (min a b) t h)))
    of_two (no l) = inr (ap Some (omega (arith, same (min a b) t h)))

module _ (e : Engine) (v : Valid e) (n : ℕ) (most : n ≤ 1000000) where
  abbrev pub few : ℕ
  few = ticks_in_time e.clock e.steering n (amount_of e.steering n)

  time : TimeFor e v n (amount_low e.steering v.steering n most) few
  time = time_for e v n (amount_low e.steering v.steering n most)

  pub few_most : few ≤ 1000000
  few_most = omega (arith, time.few)

  -- and where they are not fewer than n, they are n
  pub few_all : (m : ℕ) → m ≡ few → n ≤ m → n ≡ few
  few_all m is h = omega (arith, time.few)

  -- the tick of a generator's edge
  abbrev pub tick_of : Generator → Option ℕ
  tick_of g = edge_tick g e.clock e.steering (amount_of e.steering few)

  module _ (g : Generator) (ok : generator_ok g (shown e.clock) ≡ true) where
    -- it is not due before it, or by the last of the ticks in time where it has none
    not_before : (k : ℕ) → k ≤ few → ((t : ℕ) → tick_of g ≡ Some t → k < t) → is_due_by g (shown_after e k) ≡ false
    not_before k l before = go (tick_of g) refl
      where
        go : (o : Option ℕ) → tick_of g ≡ o → is_due_by g (shown_after e k) ≡ false
        go None z = not_due_earlier g _ _ (shown_grows e k few l) (edge_none e v g ok few z)
        go (Some t) z = (edge_some e v g ok few t z).due k ∙ lt-leb t k (before t z)

    module _ (t : ℕ) (is : tick_of g ≡ Some t) where
      due_at : is_due_by g (shown_after e t) ≡ true
      due_at = (edge_some e v g ok few t is).due t ∙ le-leb t t (omega arith)

      within : (1 ≤ t) × (t ≤ few)
      within = let x = edge_some e v g ok few t is in (x.some, x.few)

  abbrev pub first : Option ℕ
  first = earliest (tick_of e.generator1) (tick_of e.generator2)

  -- the numbers that the code works out, one after the other
  pub few_is : {amount m : ℕ} → amount ≡ amount_of e.steering n → m ≡ ticks_in_time e.clock e.steering n amount
      → m ≡ few
  few_is h₁ h₂ = h₂ ∙ ap (ticks_in_time e.clock e.steering n) h₁

  pub first_is : {within : ℕ} {o₁ o₂ o : Option ℕ} → within ≡ amount_of e.steering few
      → o₁ ≡ edge_tick e.generator1 e.clock e.steering within
      → o₂ ≡ edge_tick e.generator2 e.clock e.steering within
      → o ≡ earliest o₁ o₂ → o ≡ first
  first_is h₁ h₂ h₃ h₄ = rw (h₄, h₂, h₃, h₁) refl

  -- no edge: the run passes the ticks in time
  pub found_none : first ≡ None → run n e ≡ quietly few e
  found_none z =
      let none = none_both (tick_of e.generator1) (tick_of e.generator2) z in
      run_passes e v few
      (record {
        generator1 = edge_none e v e.generator1 v.generator1 few none.0;
        generator2 = edge_none e v e.generator2 v.generator2 few none.1;
      })
      n time.few time.near time.all

  -- an edge in tick t, in which one generator is due; before it neither is
  module _ (t : ℕ) (is : first ≡ Some t) where
    x : First (tick_of e.generator1) (tick_of e.generator2) t
    x = earliest_is (tick_of e.generator1) (tick_of e.generator2) t is

    pub among : (1 ≤ t) × (t ≤ few)
    among =
        elim x.is [
          | inl h ↦ within e.generator1 v.generator1 t h
          | inr h ↦ within e.generator2 v.generator2 t h
        ]

    due_then : (is_due_by e.generator1 (shown_after e t) || is_due_by e.generator2 (shown_after e t)) ≡ true
    due_then =
        elim x.is [
          | inl h ↦ rw (due_at e.generator1 v.generator1 t h) refl
          | inr h ↦ or_right (is_due_by e.generator1 (shown_after e t)) _ (due_at e.generator2 v.generator2 t h)
        ]

    pub first_most : t - 1 ≤ 1000000
    first_most = let a = among in omega (arith, few_most)

    quiet : Quiet (t - 1) e
    quiet =
        let a = among in
        record {
          generator1 =
              not_before e.generator1 v.generator1 (t - 1) (omega arith)
              (λ u q. let l = x.not1 u q in omega arith);
          generator2 =
              not_before e.generator2 v.generator2 (t - 1) (omega arith)
              (λ u q. let l = x.not2 u q in omega arith);
        }

    again : suc (t - 1) ≡ t
    again = let a = among in omega arith

    near : shown_after e (suc (t - 1)) < end_of_time
    near = let a = among in rw again (omega (arith, shown_grows e t few a.1, time.near))

    pub found_ticks : Ticks (elapsed (t - 1) e) no_inputs
    found_ticks = elapsed_ticks e v (t - 1) quiet near

    pub found_edge : run n e ≡ one_tick (quietly (t - 1) e)
    found_edge =
        let a = among in
        let most = time.few in
        run_meets e v (t - 1) quiet n (omega arith) near (rw again due_then)
