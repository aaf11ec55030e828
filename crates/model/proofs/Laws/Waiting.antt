-- Why the sentences of document 02, A.4, hold of `execute`. An accepted command is its row of the table of ops, a read
-- leaves the steering alone, and a record that check 4 lets pass has no adjustment waiting while none runs.
use Prim.Native.Nat.{ℕ, ◌+◌, ◌≤◌, ◌<◌}
use mathlib.Core.Path.{◌≡◌, refl, ap, ◌∙◌}
use mathlib.Core.Logic.{◌⊎◌, inl, inr}
use mathlib.Core.Bool.{Bool, true, false, ◌||◌, not, or-false}
use native.Mathlib.Decide.{ℕ_discrete}
use native.Mathlib.Omega.{arith}
use lib.Dec.{eqb}
use borrow.Author.Tests.{not-false, eqb-true, eqb-false, eq-eqb, ne_eqb}
use Rattle.model.specs.declared.Engine.{Engine}
use Rattle.model.specs.declared.Command.{Command}
use Rattle.model.specs.declared.Outcome.{Outcome}
use Rattle.model.specs.Clock.{exact, cycle_amount, no_adjustment, last_cycle, one_less, steering_after, adjusted_by}
use Rattle.model.specs.Interrupts.{has_bit}
use Rattle.model.specs.Tick.{tick_engine}
use Rattle.model.specs.OtherOps.{adjustment_in, written, read_engine, commanded}
use Rattle.model.specs.Ranges.{valid}
use Rattle.model.specs.Bounds.{AdjustmentRange}
use Rattle.model.specs.Checks.{is_op, writes, adjusts, checks, answer_of, passes}
use Rattle.model.specs.Execute.{execute}
use Rattle.model.proofs.Laws.Testing.{split, both, neither, or_right}
use Rattle.model.proofs.Laws.InRange.{SteeringRange, steering_in, adjustment_in_lem, no_adjustment_in, valid_parts}
use Rattle.model.proofs.Laws.ExactTime.{exact_ticked}
use Rattle.model.proofs.Laws.Accepting.{performed_row, execute_answer, execute_accepted}
use Rattle.model.proofs.Laws.Latching.{tick_latches}
use Rattle.model.proofs.Laws.Outcomes.{answer_cause, cause_answer}

-- a command that adjusts is an adjust write, or a preview
pub adjusts_as : (c : Command) → adjusts c ≡ true → ((c.op ≡ 2) × (c.a ≡ 2)) ⊎ (c.op ≡ 10)
adjusts_as c h = by (writes 2 c) refl h
  where
    by : (b : Bool) → writes 2 c ≡ b → (b || is_op 10 c) ≡ true → ((c.op ≡ 2) × (c.a ≡ 2)) ⊎ (c.op ≡ 10)
    by true w h = let p = both (is_op 2 c) (eqb c.a 2) w in inl (eqb-true c.op 2 p.0, eqb-true c.a 2 p.1)
    by false w h = inr (eqb-true c.op 10 h)

-- 11: such a command that found the place taken
pub eleven : (e : Engine) (c : Command) → (execute e c).answer ≡ 11
    → (0 < e.steering.waiting.cycles) × (((c.op ≡ 2) × (c.a ≡ 2)) ⊎ (c.op ≡ 10))
unfolding checks
eleven e c h =
    let fails = (answer_cause e c 11 (omega arith) h).fails in
    let f = neither (not (adjusts c)) (eqb e.steering.waiting.cycles 0) fails in
    let some = eqb-false e.steering.waiting.cycles 0 f.1 in
    (omega arith, adjusts_as c (not-false (adjusts c) f.0))

pub taken_eleven : (e : Engine) (c : Command) → c.op ≡ 2 → c.a ≡ 2 → 0 < e.steering.waiting.cycles
    → ((m : ℕ) → 4 ≤ m → m < 11 → passes e c m ≡ true)
    → (execute e c).answer ≡ 11
unfolding checks
taken_eleven e c o a taken above =
    let some = ne_eqb e.steering.waiting.cycles 0 (λ z. omega arith) in
    cause_answer e c 11 (omega arith) (record { fails = rw (o, a, some) refl; above = above })

-- 4: the steering is not in range
four : (e : Engine) (c : Command) → valid e ≡ false → answer_of e c ≡ 4
unfolding answer_of checks
four e c h = rw h

module _ (e : Engine) (c : Command) (n : (execute e c).answer ≡ 4 → ⊥) where
  in_range : SteeringRange e.steering
  in_range = by (valid e) refl
    where
      by : (b : Bool) → valid e ≡ b → SteeringRange e.steering
      by true v = steering_in e.steering (valid_parts e v).steering
      by false v = absurd (n (execute_answer e c ∙ four e c v))

  pub unused : e.steering.waiting.cycles ≡ 0 → e.steering.waiting ≡ no_adjustment
  unused z = no_adjustment_in e.steering.waiting in_range.waiting (eq-eqb _ 0 z)

  pub used : 0 < e.steering.waiting.cycles → AdjustmentRange e.steering.waiting
  used l =
      let some = ne_eqb e.steering.waiting.cycles 0 (λ z. omega arith) in
      adjustment_in_lem e.steering.waiting in_range.waiting some

  pub behind : 0 < e.steering.waiting.cycles → 0 < e.steering.adjustment.cycles
  behind l =
      elim (ℕ_discrete e.steering.adjustment.cycles 0) [
        | yes z ↦ absurd (omega (arith, in_range.behind z))
        | no z ↦ omega arith
      ]

pub waits_alone : (e : Engine) (c : Command) → 0 < e.steering.waiting.cycles → e.steering.adjustment.cycles ≡ 0
    → (execute e c).answer ≡ 4
waits_alone e c some none = by (valid e) refl
  where
    by : (b : Bool) → valid e ≡ b → (execute e c).answer ≡ 4
    by true v = let s = steering_in e.steering (valid_parts e v).steering in absurd (omega (arith, s.behind none))
    by false v = execute_answer e c ∙ four e c v

-- op 2: the read leaves the steering alone
read_steering : (e : Engine) (b : ℕ) → (read_engine e b).steering ≡ e.steering
unfolding read_engine
read_steering e b =
    split (λ (x : Engine). x.steering ≡ e.steering) (eqb b 0) (λ z. refl) (λ z. refl)

commanded_steering : (e : Engine) (a b : ℕ) → (commanded e a b).engine.steering ≡ (written e a).steering
unfolding commanded
commanded_steering e a b =
    split (λ (x : Outcome). x.engine.steering ≡ (written e a).steering) (eqb b 8)
    (λ z. refl)
    (λ z. read_steering (written e a) b)

module _ (e : Engine) (c : Command) (h : (execute e c).answer ≡ 0) where
  write_steering : c.op ≡ 2 → (execute e c).engine.steering ≡ (written e c.a).steering
  write_steering o =
      let given = (execute_accepted e c h).1 ∙ performed_row e c 2 o in
      ap (λ (x : Outcome). x.engine.steering) given ∙ commanded_steering e c.a c.b

  pub time_keeps : c.op ≡ 2 → c.a ≡ 0 → (execute e c).engine.steering ≡ e.steering
  unfolding written
  time_keeps o a = write_steering o ∙ rw a refl

  adjusted : c.op ≡ 2 → c.a ≡ 2
      → (execute e c).engine.steering ≡ adjusted_by e.steering (adjustment_in e.words)
  unfolding written
  adjusted o a = write_steering o ∙ rw a refl

  pub runs_at_once : c.op ≡ 2 → c.a ≡ 2 → e.steering.adjustment.cycles ≡ 0
      → (execute e c).engine.steering
      ≡ record {
        period = e.steering.period;
        adjustment = adjustment_in e.words;
        waiting = e.steering.waiting;
      }
  unfolding adjusted_by
  runs_at_once o a z = adjusted o a ∙ rw (eq-eqb e.steering.adjustment.cycles 0 z)

  pub waits : c.op ≡ 2 → c.a ≡ 2 → 0 < e.steering.adjustment.cycles
      → (execute e c).engine.steering
      ≡ record {
        period = e.steering.period;
        adjustment = e.steering.adjustment;
        waiting = adjustment_in e.words;
      }
  unfolding adjusted_by
  waits o a some = adjusted o a ∙ rw (ne_eqb e.steering.adjustment.cycles 0 (λ z. omega arith))

  -- op 0
  ticked : c.op ≡ 0 → (execute e c).engine ≡ tick_engine e c
  ticked o = ap (λ (x : Outcome). x.engine) ((execute_accepted e c h).1 ∙ performed_row e c 0 o)

  tick_steering : c.op ≡ 0 → (execute e c).engine.steering ≡ steering_after e.steering
  unfolding tick_engine
  tick_steering o = ap (λ (x : Engine). x.steering) (ticked o)

  pub taken_up : c.op ≡ 0 → e.steering.adjustment.cycles ≡ 1
      → (execute e c).engine.steering
      ≡ record { period = e.steering.period; adjustment = e.steering.waiting; waiting = no_adjustment }
  unfolding steering_after last_cycle
  taken_up o one = tick_steering o ∙ rw (eq-eqb e.steering.adjustment.cycles 1 one)

  pub still_waits : c.op ≡ 0 → (e.steering.adjustment.cycles ≡ 1 → ⊥)
      → (execute e c).engine.steering
      ≡ record {
        period = e.steering.period;
        adjustment = one_less e.steering.adjustment;
        waiting = e.steering.waiting;
      }
  unfolding steering_after last_cycle
  still_waits o more = tick_steering o ∙ rw (ne_eqb e.steering.adjustment.cycles 1 more)

  -- the amount of the tick is that of the steering before it
  gains : c.op ≡ 0 → exact (execute e c).engine.clock ≡ exact e.clock + cycle_amount e.steering
  unfolding tick_engine
  gains o = rw (ticked o) (exact_ticked e.clock (cycle_amount e.steering))

  pub steers : c.op ≡ 0 → 0 < e.steering.adjustment.cycles
      → exact (execute e c).engine.clock ≡ exact e.clock + e.steering.adjustment.amount
  unfolding cycle_amount
  steers o some = gains o ∙ rw (ne_eqb e.steering.adjustment.cycles 0 (λ z. omega arith))

  -- its last cycle sets TAC
  pub sets_tac : c.op ≡ 0 → e.steering.adjustment.cycles ≡ 1
      → has_bit 0 (execute e c).engine.interrupts.latched ≡ true
  sets_tac o one =
      rw (ticked o) ((tick_latches e c).TAC ∙ or_right (has_bit 0 e.interrupts.latched) _ (eq-eqb _ 1 one))

  -- and no other cycle does
  pub keeps_tac : c.op ≡ 0 → (e.steering.adjustment.cycles ≡ 1 → ⊥)
      → has_bit 0 (execute e c).engine.interrupts.latched ≡ has_bit 0 e.interrupts.latched
  keeps_tac o more =
      rw (ticked o) ((tick_latches e c).TAC ∙ rw (ne_eqb e.steering.adjustment.cycles 1 more) (or-false _))
