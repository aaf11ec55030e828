-- The eighth by the search from the top is the whole part of 8 × (E - A) / S: an eighth starts by E exactly where its
-- number is not above that whole part, so the first such number from the top is the whole part itself.
use Prim.Native.Nat.{ℕ, zero, suc, ◌+◌, ◌*◌, ◌-◌, ◌<◌, ◌≤◌}
use native.Mathlib.Nat.{mul-pos, le-div_iff_mul-le, div-lt_iff_lt-mul}
use native.Mathlib.Omega.{arith}
use mathlib.Core.Path.{◌≡◌, refl, ◌∙◌}
use mathlib.Core.List.{List, [], ◌∷◌}
use mathlib.Core.Bool.{Bool, true, false, cond}
use lib.Dec.{leb}
use borrow.Author.Tests.{leb-true, leb-false, le-leb, ltb-true}
use Rattle.model.specs.declared.Generator.{Generator}
use Rattle.model.specs.declared.Engine.{Engine}
use Rattle.model.specs.declared.Command.{Command}
use Rattle.model.specs.declared.Outcome.{Outcome}
use Rattle.model.specs.Clock.{shown}
use Rattle.model.specs.Edges.{edge_code}
use Rattle.model.specs.Generator.{pending_total, is_running, is_before, is_due, starts_by, first_of, eighth_of, placed}
use Rattle.model.specs.Tick.{tick_step, tick_values}
use Rattle.model.specs.Ranges.{generator_ok, valid}
use Rattle.model.specs.Execute.{execute}
use Rattle.model.specs.FloorEighth.{floor_eighth, floor_placed, floor_values}
use Rattle.model.proofs.Laws.Testing.{split, both, leb_same}
use Rattle.model.proofs.Laws.InRange.{running_in, valid_parts}
use Rattle.model.proofs.Laws.Accepting.{by_answer, performed_row}
use Rattle.model.proofs.Laws.TickRange.{tick_step_bounds}

-- two tests that agree find the same
pub first_same : (f h : ℕ → Bool) → ((p : ℕ) → f p ≡ h p) → (ps : List ℕ) → first_of f ps ≡ first_of h ps
unfolding first_of
first_same f h e [] = refl
first_same f h e (p ∷ ps) = rw (e p, first_same f h e ps)

-- the numbers from n down to 0
unfoldable pub down_from : ℕ → List ℕ
down_from zero = 0 ∷ []
down_from (suc n) = suc n ∷ down_from n

module _ (test : ℕ → Bool) where
  pub taken : (n : ℕ) → test n ≡ true → first_of test (down_from n) ≡ n
  unfolding first_of down_from
  taken zero h = rw h
  taken (suc n) h = rw h

  pub skipped : (n : ℕ) → test (suc n) ≡ false → first_of test (down_from (suc n)) ≡ first_of test (down_from n)
  unfolding first_of down_from
  skipped n h = rw h

abbrev AllBelow : ℕ → List ℕ → Type 0
AllBelow n [] = 0 < n
AllBelow n (p ∷ ps) = (p < n) × AllBelow n ps

-- what is found is one of the numbers, or 0
found_below : (test : ℕ → Bool) (n : ℕ) (ps : List ℕ) → AllBelow n ps → first_of test ps < n
unfolding first_of
found_below test n [] h = h
found_below test n (p ∷ ps) h = split (λ (x : ℕ). x < n) (test p) (λ y. h.0) (λ y. found_below test n ps h.1)

pub eighth_below_8 : (g : Generator) (a s : ℕ) → eighth_of g a s < 8
unfolding eighth_of
eighth_below_8 g a s = found_below (starts_by g a s) 8 _ (omega arith)

-- of the numbers from n down the first that is not above q is q
found : (n q : ℕ) → q ≤ n → first_of (λ p. leb p q) (down_from n) ≡ q
found zero q h = taken (λ p. leb p q) 0 (le-leb 0 q (omega arith)) ∙ omega arith
found (suc n) q h = go (leb (suc n) q) refl (found n q)
  where
    go : (y : Bool) → leb (suc n) q ≡ y → (q ≤ n → first_of (λ p. leb p q) (down_from n) ≡ q)
        → first_of (λ p. leb p q) (down_from (suc n)) ≡ q
    go true e rest = taken (λ p. leb p q) (suc n) e ∙ omega (arith, leb-true (suc n) q e)
    go false e rest = skipped (λ p. leb p q) n e ∙ rest (omega (arith, leb-false (suc n) q e))

-- an eighth starts by E where its own start is not further from A than E is
pub starts_ahead : (g : Generator) (a s p : ℕ) → a * g.denominator ≤ pending_total g * 256
    → starts_by g a s p ≡ leb (p * (s * g.denominator)) (8 * (pending_total g * 256 - a * g.denominator))
unfolding starts_by
starts_ahead g a s p from =
    leb_same ((8 * a + p * s) * g.denominator) (8 * (pending_total g * 256)) (p * (s * g.denominator))
    (8 * (pending_total g * 256 - a * g.denominator))
    (λ h. omega (arith, h), λ h. omega (arith, h))

module _ (g : Generator) (a s : ℕ) (unit : 0 < g.denominator) (some : 0 < s)
    (from : a * g.denominator ≤ pending_total g * 256) where
  starts_is : (p : ℕ) → starts_by g a s p ≡ leb p (floor_eighth g a s)
  starts_is p =
      let floor = le-div_iff_mul-le {k = s * g.denominator} {x = p} (mul-pos some unit) in
      starts_ahead g a s p from ∙ leb_same _ _ p (floor_eighth g a s) (floor.1, floor.0)

  pub eighth_is_floor : pending_total g * 256 < (a + s) * g.denominator → eighth_of g a s ≡ floor_eighth g a s
  unfolding eighth_of down_from
  eighth_is_floor to =
      let few : floor_eighth g a s < 8 = (div-lt_iff_lt-mul (mul-pos some unit)).1 (omega arith) in
      first_same (starts_by g a s) (λ p. leb p (floor_eighth g a s)) starts_is _
      ∙ found 7 (floor_eighth g a s) (omega arith)

pub due_is_floor : (g : Generator) (a s : ℕ) → generator_ok g a ≡ true → 0 < s → is_due g a s ≡ true
    → eighth_of g a s ≡ floor_eighth g a s
unfolding is_due is_before
due_is_floor g a s ok some due =
    let d = both (is_running g) (is_before g (a + s)) due in
    let r = running_in g a ok d.0 in
    eighth_is_floor g a s (omega (arith, r.remainder)) some r.ahead (ltb-true _ _ d.1)

pub placed_is_floor : (g : Generator) (a s : ℕ) → generator_ok g a ≡ true → 0 < s → placed g a s ≡ floor_placed g a s
unfolding placed
placed_is_floor g a s ok some = go (is_due g a s) refl
  where
    go : (y : Bool) → is_due g a s ≡ y
        → cond y (edge_code g.direction (eighth_of g a s)) 0 ≡ cond y (edge_code g.direction (floor_eighth g a s)) 0
    go true due = rw (due_is_floor g a s ok some due)
    go false due = refl

values_are_floor : (e : Engine) → valid e ≡ true → tick_values e ≡ floor_values e
unfolding tick_values
values_are_floor e ok =
    let v = valid_parts e ok in
    let some : 0 < tick_step e = omega (arith, (tick_step_bounds e v).0) in
    rw (
      placed_is_floor e.generator1 (shown e.clock) (tick_step e) v.generator1 some,
      placed_is_floor e.generator2 (shown e.clock) (tick_step e) v.generator2 some,
    )

pub tick_is_floor : (e : Engine) (c : Command) → c.op ≡ 0 → (execute e c).answer ≡ 0
    → (execute e c).values ≡ floor_values e
tick_is_floor e c o =
    by_answer (λ (x : Outcome). x.answer ≡ 0 → x.values ≡ floor_values e) e c
    (λ n z. absurd (n z))
    (λ k z. rw (performed_row e c 0 o) (values_are_floor e k.valid))
