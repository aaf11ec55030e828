-- An accepted tick: the clock moves by the amount that the ledger adds, the adjustment loses the cycle that the ledger
-- takes off, with the last one what waits has its turn on both sides, and each generator returns the edge that its
-- order has there, if any.
use Prim.Native.Nat.{ℕ, ◌+◌, ◌-◌, ◌^◌}
use mathlib.Core.Path.{◌≡◌, refl, sym, ap, ◌∙◌}
use mathlib.Core.List.{List, ◌++◌, append-nil}
use mathlib.Core.Bool.{Bool, true, false, cond}
use native.Mathlib.Omega.{arith}
use lib.Dec.{eqb}
use borrow.Author.Tests.{eqb-false, ne_eqb}
use Rattle.model.specs.declared.Engine.{Engine}
use Rattle.model.specs.declared.Command.{Command}
use Rattle.model.specs.declared.Generator.{Generator}
use Rattle.model.specs.declared.Steering.{Steering}
use Rattle.model.specs.declared.Outcome.{Outcome}
use Rattle.model.specs.Clock.{shown, cycle_amount, remainder_by, one_less, last_cycle, taken_up, steering_after}
use Rattle.model.specs.Generator.{is_running, placed, generated, is_due}
use Rattle.model.specs.Outcome.{accepted}
use Rattle.model.specs.Tick.{tick_step, tick_engine, tick_values}
use Rattle.model.specs.Ranges.{valid, generator_ok}
use Rattle.model.specs.Run.{Entry, entry_of}
use Rattle.ledger.specs.Ledger.{Waiting, none_waits, waits, LedgerSteering, Edge, Order, none, standing, Ledger}
use Rattle.ledger.specs.Ledger.{next_amount, turn_of, cycle_taken, ledger_ticked, ledger_ticks, ledger_edges}
use Rattle.ledger.specs.Bookings.{code_for, edges_in, booked, told}
use Rattle.model.proofs.Laws.InRange.{Valid, valid_parts, clock_in}
use Rattle.model.proofs.Laws.ExactTime.{exact_ticked, shown_ticked, step_left, remainder_low}
use Rattle.ledger.proofs.Laws.FractionValues.{Is, is_plus}
use Rattle.model.proofs.Laws.TickRange.{tick_step_bounds}
use Rattle.ledger.proofs.Follow.LedgerTick.{TickIn, tick_standing}
use Rattle.ledger.proofs.Follow.Agrees.{Follows, Waits, Steers, Agrees, after}

-- the amount ordered is the amount of the cycle
next_amount_is : (s : Steering) (o : LedgerSteering) → Steers s o → Is (next_amount o) (cycle_amount s) (2 ^ 32)
unfolding cycle_amount
next_amount_is s o h = rw h.owes (by (eqb s.adjustment.cycles 0) refl)
  where
    by : (b : Bool) → eqb s.adjustment.cycles 0 ≡ b
        → Is (cond b o.period o.adjust) (cond b s.period s.adjustment.amount) (2 ^ 32)
    by true z = h.period_is
    by false z = h.adjust_is z

tick_in : (e : Engine) (l : Ledger) → Valid e → Agrees e l
    → TickIn (shown e.clock) (tick_step e) e.clock.remainder
    (remainder_by e.clock (cycle_amount e.steering)) (cycle_amount e.steering) l
tick_in e l p h =
    let b = tick_step_bounds e p in
    record {
      some = omega arith;
      small = b.1;
      divided = step_left e.clock (cycle_amount e.steering);
      before_low = (clock_in e.clock p.clock).remainder;
      left_low = remainder_low e.clock (cycle_amount e.steering);
      time = h.time;
      next_amount = next_amount_is e.steering l.steering h.steering;
    }

-- an idle generator returns no edge
idle_tick : (g : Generator) (a s : ℕ) → is_running g ≡ false → (placed g a s ≡ 0) × (generated g a s ≡ g)
unfolding placed generated is_due
idle_tick g a s r = (rw r, rw r)

follows_tick : (o : Order) (edges : List Edge) (g : Generator) {a s before left amount : ℕ} {l : Ledger}
    → TickIn a s before left amount l → (n : ℕ) (x : Entry) → code_for n x ≡ placed g a s → generator_ok g a ≡ true
    → Follows o edges g a
    → Follows o (edges ++ edges_in n l x) (generated g a s) (a + s)
follows_tick none edges g {a} {s} t n x told ok h =
    let q = idle_tick g a s h.1 in
    let code = told ∙ q.0 in
    rw (code, q.1, append-nil) h
follows_tick (standing start interval count) edges g t n x told ok h = tick_standing t h n x told ok

-- the last cycle: what waits becomes the running adjustment on one side, PER_ADJ and the cycles owed on the other
turn_steers : (s : Steering) (o : LedgerSteering) (w : Waiting) → Is o.period s.period (2 ^ 32)
    → Waits w s.waiting
    → Steers (taken_up s) (turn_of w o)
turn_steers s o none_waits p z = record {
  period_is = p;
  owes = sym z;
  adjust_is = λ n. absurd (eqb-false s.waiting.cycles 0 n z);
  waits_is = refl;
}
turn_steers s o (waits amount count) p h = record {
  period_is = p;
  owes = h.0;
  adjust_is = λ n. h.1;
  waits_is = refl;
}

-- any other cycle: one less is left, of the same amount
less_steers : (s : Steering) (o : LedgerSteering) → Steers s o
    → Steers (record { period = s.period; adjustment = one_less s.adjustment; waiting = s.waiting })
    (record { period = o.period; adjust = o.adjust; owed = o.owed - 1; waiting = o.waiting })
less_steers s o h = record {
  period_is = h.period_is;
  owes = ap (λ (n : ℕ). n - 1) h.owes;
  adjust_is = λ n.
      let left = eqb-false (s.adjustment.cycles - 1) 0 n in
      h.adjust_is (ne_eqb s.adjustment.cycles 0 (λ z. left (omega arith)));
  waits_is = h.waits_is;
}

steers_tick : (s : Steering) (o : LedgerSteering) → Steers s o → Steers (steering_after s) (cycle_taken o)
unfolding steering_after last_cycle
steers_tick s o h =
    let same : eqb o.owed 1 ≡ eqb s.adjustment.cycles 1 = ap (λ (n : ℕ). eqb n 1) h.owes in
    rw same (by (eqb s.adjustment.cycles 1))
  where
    by : (b : Bool)
        → Steers
        (cond b (taken_up s)
        (record { period = s.period; adjustment = one_less s.adjustment; waiting = s.waiting }))
        (cond b (turn_of o.waiting o)
        (record { period = o.period; adjust = o.adjust; owed = o.owed - 1; waiting = o.waiting }))
    by true = turn_steers s o o.waiting h.period_is h.waits_is
    by false = less_steers s o h

-- one tick, whose codes an entry has
pub tick_agrees : (e : Engine) (l : Ledger) (c : Command) (x : Entry) → Valid e → Agrees e l
    → x.values.w1 ≡ (tick_values e).w1
    → x.values.w2 ≡ (tick_values e).w2
    → Agrees (tick_engine e c) (ledger_edges (ledger_ticked l) (edges_in 1 l x) (edges_in 2 l x))
unfolding tick_engine tick_values
tick_agrees e l c x p h one two =
    let k = tick_in e l p h in
    let now = shown_ticked e.clock (cycle_amount e.steering) in
    let moved = exact_ticked e.clock (cycle_amount e.steering) in
    record {
      words = h.words;
      time = rw moved (is_plus h.time k.next_amount);
      steering = steers_tick e.steering l.steering h.steering;
      generator1 =
          rw now
          (follows_tick l.train1.order _ _ k 1 x one p.generator1 h.generator1);
      generator2 =
          rw now
          (follows_tick l.train2.order _ _ k 2 x two p.generator2 h.generator2);
    }

-- op 0
op_0_told : (l : Ledger) (c : Command) (o : Outcome) → c.op ≡ 0 → o.answer ≡ 0
    → after l c o ≡ ledger_edges (ledger_ticked l) (edges_in 1 l (entry_of c o)) (edges_in 2 l (entry_of c o))
unfolding told booked ledger_ticks
op_0_told l c o op answer = rw (op, answer)

pub op_0_agrees : (e : Engine) (l : Ledger) (c : Command) → valid e ≡ true → Agrees e l → c.op ≡ 0
    → Agrees (tick_engine e c) (after l c (accepted (tick_values e) (tick_engine e c)))
op_0_agrees e l c v h op =
    let o = accepted (tick_values e) (tick_engine e c) in
    rw (op_0_told l c o op refl) (tick_agrees e l c (entry_of c o) (valid_parts e v) h refl refl)
