-- The steering after n cycles, and TAC. An adjustment counts down to nothing; with its last cycle the one that waits
-- takes its place and counts down from there. TAC is set where the running one's count is met, and is set again where
-- the other's is.
use Prim.Native.Nat.{ℕ, suc, ◌-◌, ◌≤◌, ◌<◌}
use mathlib.Core.Path.{◌≡◌, refl, sym, ◌∙◌}
use mathlib.Core.Bool.{true, false, cond, and-false}
use native.Mathlib.Decide.{dec_le, ℕ_discrete}
use native.Mathlib.Omega.{arith}
use lib.Dec.{eqb, leb}
use borrow.Author.Tests.{leb-true, eq-eqb, ne_eqb, le-leb, lt-leb}
use Rattle.model.specs.declared.Adjustment.{Adjustment}
use Rattle.model.specs.declared.Steering.{Steering}
use Rattle.model.specs.Clock.{no_adjustment, last_cycle, steering_after}
use Rattle.model.specs.Interrupts.{with_bit}
use Rattle.model.specs.Ranges.{adjustment_ok}
use Rattle.model.specs.Elapse.{spent_by, steering_by, ends_within, latched_by}
use Rattle.model.proofs.Laws.Testing.{split}
use Rattle.model.proofs.Laws.Bits.{bit_with_same}
use Rattle.model.proofs.Laws.InRange.{SteeringRange, no_adjustment_in}

-- an adjustment after n cycles of its own: over, or with cycles left
module _ (j : Adjustment) (n : ℕ) where
  spent_over : j.cycles ≤ n → spent_by j n ≡ no_adjustment
  unfolding spent_by
  spent_over h = rw (le-leb j.cycles n h)

  spent_still : n < j.cycles → spent_by j n ≡ record { amount = j.amount; cycles = j.cycles - n }
  unfolding spent_by
  spent_still h = rw (lt-leb j.cycles n h)

spent_zero : (j : Adjustment) → adjustment_ok j ≡ true → spent_by j 0 ≡ j
unfolding spent_by
spent_zero j h =
    let same : j.cycles - 0 ≡ j.cycles = omega arith in
    split (λ (x : Adjustment). x ≡ j) (leb j.cycles 0)
    (λ e. sym (no_adjustment_in j h (eq-eqb j.cycles 0 (omega (arith, leb-true)))))
    (λ e. λ i. record { amount = j.amount; cycles = same i })

-- the steering after n cycles, by its phase
module _ (s : Steering) (n : ℕ) where
  first_over : s.adjustment.cycles ≤ n
      → steering_by s n ≡ record {
        period = s.period;
        adjustment = spent_by s.waiting (n - s.adjustment.cycles);
        waiting = no_adjustment;
      }
  unfolding steering_by
  first_over h = rw (le-leb s.adjustment.cycles n h)

  first_still : n < s.adjustment.cycles
      → steering_by s n ≡ record {
        period = s.period;
        adjustment = record { amount = s.adjustment.amount; cycles = s.adjustment.cycles - n };
        waiting = s.waiting;
      }
  unfolding steering_by
  first_still h = rw (lt-leb s.adjustment.cycles n h, spent_still s.adjustment n h)

-- a cycle where none waits: the adjustment loses one
alone : (p : ℕ) (j : Adjustment) (n : ℕ)
    → steering_after (record { period = p; adjustment = spent_by j n; waiting = no_adjustment })
    ≡ record { period = p; adjustment = spent_by j (suc n); waiting = no_adjustment }
unfolding steering_after last_cycle
alone p j n =
    elim (dec_le j.cycles n) [
      | yes h ↦ rw (spent_over j n h, spent_over j (suc n) (omega arith))
      | no h ↦ rw (spent_still j n (omega arith)) (last (ℕ_discrete j.cycles (suc n)) (omega arith))
    ]
  where
    less : j.cycles - n - 1 ≡ j.cycles - suc n
    less = omega arith

    left : Adjustment
    left = record { amount = j.amount; cycles = j.cycles - n }

    last : Dec (j.cycles ≡ suc n) → n < j.cycles
        → steering_after (record { period = p; adjustment = left; waiting = no_adjustment })
        ≡ record { period = p; adjustment = spent_by j (suc n); waiting = no_adjustment }
    last (yes h) l = rw (eq-eqb (j.cycles - n) 1 (omega arith), spent_over j (suc n) (omega arith))
    last (no h) l =
        rw (ne_eqb (j.cycles - n) 1 (λ z. h (omega arith)), spent_still j (suc n) (omega arith), less)

module _ (s : Steering) (v : SteeringRange s) where
  -- where none runs it stays
  pub steering_still : s.adjustment.cycles ≡ 0 → (n : ℕ) → steering_by s n ≡ s
  steering_still z n =
      let first = no_adjustment_in s.adjustment v.running (eq-eqb _ 0 z) in
      let second = no_adjustment_in s.waiting v.waiting (eq-eqb _ 0 (v.behind z)) in
      first_over s n (omega arith)
      ∙ rw (spent_over s.waiting (n - s.adjustment.cycles) (omega (arith, v.behind z)))
      (λ i. record { period = s.period; adjustment = sym first i; waiting = sym second i })

  pub steering_zero : steering_by s 0 ≡ s
  steering_zero =
      elim (dec_le s.adjustment.cycles 0) [
        | yes h ↦ steering_still (omega arith) 0
        | no h ↦ some (omega arith)
      ]
    where
      some : 0 < s.adjustment.cycles → steering_by s 0 ≡ s
      some l =
          let same : s.adjustment.cycles - 0 ≡ s.adjustment.cycles = omega arith in
          first_still s 0 l
          ∙ (λ i. record {
            period = s.period;
            adjustment = record { amount = s.adjustment.amount; cycles = same i };
            waiting = s.waiting;
          })

  -- one cycle more
  pub steering_suc : (n : ℕ) → steering_after (steering_by s n) ≡ steering_by s (suc n)
  unfolding steering_after last_cycle
  steering_suc n =
      elim (dec_le s.adjustment.cycles n) [
        | yes h ↦ over h
        | no h ↦ still (omega arith) (ℕ_discrete s.adjustment.cycles (suc n))
      ]
    where
      over : s.adjustment.cycles ≤ n → steering_after (steering_by s n) ≡ steering_by s (suc n)
      over h =
          let on : suc n - s.adjustment.cycles ≡ suc (n - s.adjustment.cycles) = omega arith in
          rw (first_over s n h, first_over s (suc n) (omega arith), on) (alone s.period s.waiting _)

      still : n < s.adjustment.cycles → Dec (s.adjustment.cycles ≡ suc n)
          → steering_after (steering_by s n) ≡ steering_by s (suc n)
      still l (yes h) =
          let last = eq-eqb (s.adjustment.cycles - n) 1 (omega arith) in
          let none : suc n - s.adjustment.cycles ≡ 0 = omega arith in
          rw (
            first_still s n l,
            last,
            first_over s (suc n) (omega arith),
            none,
            spent_zero s.waiting v.waiting,
          )
      still l (no h) =
          let more = ne_eqb (s.adjustment.cycles - n) 1 (λ z. h (omega arith)) in
          let less : s.adjustment.cycles - n - 1 ≡ s.adjustment.cycles - suc n = omega arith in
          rw (first_still s n l, more, first_still s (suc n) (omega arith), less)

-- TAC after n cycles: the running one's end is among them, or it has cycles left
module _ (j : Adjustment) (n : ℕ) where
  ends_over : 1 ≤ j.cycles → j.cycles ≤ n → ends_within j n ≡ true
  unfolding ends_within
  ends_over some h = rw (le-leb 1 j.cycles some, le-leb j.cycles n h)

  ends_still : n < j.cycles → ends_within j n ≡ false
  unfolding ends_within
  ends_still h = rw (lt-leb j.cycles n h) (and-false (leb 1 j.cycles))

  ends_none : j.cycles ≡ 0 → ends_within j n ≡ false
  unfolding ends_within
  ends_none z = rw (lt-leb 1 j.cycles (omega arith))

pub ends_zero : (j : Adjustment) → ends_within j 0 ≡ false
ends_zero j =
    elim (dec_le 1 j.cycles) [ yes h ↦ ends_still j 0 h | no h ↦ ends_none j 0 (omega arith) ]

-- a bit that is set stays set
set_twice : (x : ℕ) → with_bit 0 (with_bit 0 x) ≡ with_bit 0 x
unfolding with_bit
set_twice x = rw (bit_with_same 0 x)

module _ (s : Steering) (v : SteeringRange s) (n x : ℕ) where
  -- in the next cycle it is set where the adjustment that runs then has its last
  pub latched_suc : cond (last_cycle (steering_by s n).adjustment) (with_bit 0 (latched_by s.adjustment n x))
      (latched_by s.adjustment n x)
      ≡ latched_by s.adjustment (suc n) x
  unfolding last_cycle
  latched_suc =
      elim (dec_le s.adjustment.cycles n) [
        | yes h ↦
            elim (dec_le 1 s.adjustment.cycles) [
              | yes l ↦ over l h
              | no l ↦ none (omega arith)
            ]
        | no h ↦ still (omega arith) (ℕ_discrete s.adjustment.cycles (suc n))
      ]
    where
      j : Adjustment
      j = s.adjustment

      Next : Type 0
      Next = cond (eqb (steering_by s n).adjustment.cycles 1) (with_bit 0 (latched_by j n x)) (latched_by j n x)
          ≡ latched_by j (suc n) x

      none : j.cycles ≡ 0 → Next
      none z =
          rw (
            first_over s n (omega arith),
            spent_over s.waiting (n - j.cycles) (omega (arith, v.behind z)),
            ends_none j n z,
            ends_none j (suc n) z,
          )

      -- it is set already, and the one that waited may set it again
      over : 1 ≤ j.cycles → j.cycles ≤ n → Next
      over some h =
          rw (ends_over j n some h, ends_over j (suc n) some (omega arith))
          (split (λ (y : ℕ). y ≡ with_bit 0 x) (eqb (steering_by s n).adjustment.cycles 1)
          (λ e. set_twice x) (λ e. refl))

      still : n < j.cycles → Dec (j.cycles ≡ suc n) → Next
      still l (yes h) =
          rw (
            first_still s n l,
            eq-eqb (j.cycles - n) 1 (omega arith),
            ends_still j n l,
            ends_over j (suc n) (omega arith) (omega arith),
          )
      still l (no h) =
          rw (
            first_still s n l,
            ne_eqb (j.cycles - n) 1 (λ z. h (omega arith)),
            ends_still j n l,
            ends_still j (suc n) (omega arith),
          )
