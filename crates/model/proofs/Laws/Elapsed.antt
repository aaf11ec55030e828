-- n ticks by formula. A tick in which no generator is due moves only the clock, the steering and TAC, each as its
-- formula says; so one tick takes the formula at n to the formula at n + 1, for every n.
use Prim.Native.Nat.{ℕ, zero, suc, ◌+◌, ◌*◌, ◌/◌, ◌≤◌, ◌<◌, ◌^◌}
use mathlib.Core.Path.{◌≡◌, refl, sym, ap, ◌∙◌}
use mathlib.Core.Bool.{Bool, true, false, ◌&&◌, not, cond}
use native.Mathlib.Nat.{add-zero, mul-le-mul_right}
use native.Mathlib.Omega.{arith}
use lib.Dec.{eqb, ltb}
use borrow.Author.Tests.{ltb-false, le-ltb}
use Rattle.model.specs.declared.Generator.{Generator}
use Rattle.model.specs.declared.Words.{Words}
use Rattle.model.specs.declared.Engine.{Engine}
use Rattle.model.specs.Words.{no_words}
use Rattle.model.specs.Clock.{shown, exact, clock_at_exact, cycle_amount, ticked, last_cycle, steering_after}
use Rattle.model.specs.Fifo.{captured, captures_first, overflows}
use Rattle.model.specs.Generator
use Rattle.model.specs.Interrupts.{positions, with_bit, latch}
use Rattle.model.specs.Ranges.{generator_ok}
use Rattle.model.specs.Tick.{tick_step, tick_events, tick_engine, tick_values, no_inputs, ticks}
use Rattle.model.specs.Elapse.{amount_of, steering_by, elapsed}
use Rattle.model.proofs.Laws.InRange.{Valid, clock_in, steering_in, running_in}
use Rattle.model.proofs.Laws.Latching.{placed_due}
use Rattle.model.proofs.Laws.Cycles
use Rattle.model.proofs.Laws.Phases

-- the time shown after n cycles, in 1/256 ns
unfoldable pub shown_after : Engine → ℕ → ℕ
shown_after e n = (exact e.clock + amount_of e.steering n) / 2 ^ 24

-- a generator has an edge below a time t of 1/256 ns
unfoldable pub is_due_by : Generator → ℕ → Bool
is_due_by g t = Generator.is_running g && Generator.is_before g t

-- neither generator has an edge in the next n cycles
pub record Quiet (n : ℕ) (e : Engine) : Type 0 where
  pub generator1 : is_due_by e.generator1 (shown_after e n) ≡ false
  pub generator2 : is_due_by e.generator2 (shown_after e n) ≡ false

-- a generator that is not due in a tick stays as it is, and returns and sets nothing
module _ (g : Generator) (a s : ℕ) (h : Generator.is_due g a s ≡ false) where
  generated_same : Generator.generated g a s ≡ g
  unfolding Generator.generated
  generated_same = rw h

  placed_none : Generator.placed g a s ≡ 0
  unfolding Generator.placed
  placed_none = rw h

  event_none : Generator.completes_event g a s ≡ false
  unfolding Generator.completes_event
  event_none = rw h

  sequence_none : Generator.completes_sequence g a s ≡ false
  unfolding Generator.completes_sequence
  sequence_none = rw h

-- a generator is due in the next tick of a record
abbrev pub due : Engine → Generator → Bool
due e g = Generator.is_due g (shown e.clock) (tick_step e)

-- a tick without inputs in which none is
module _ (e : Engine) (one : due e e.generator1 ≡ false) (two : due e e.generator2 ≡ false) where
  latched : ℕ
  latched = e.interrupts.latched

  quiet_latch : latch positions (tick_events e no_inputs) latched
      ≡ cond (last_cycle e.steering.adjustment) (with_bit 0 latched) latched
  unfolding tick_events latch captures_first overflows latched
  quiet_latch =
      rw (
        event_none e.generator1 _ _ one,
        sequence_none e.generator1 _ _ one,
        event_none e.generator2 _ _ two,
        sequence_none e.generator2 _ _ two,
      )

  quiet_tick : tick_engine e no_inputs ≡ record {
    clock = ticked e.clock (cycle_amount e.steering);
    steering = steering_after e.steering;
    fifo1 = e.fifo1;
    fifo2 = e.fifo2;
    fifo3 = e.fifo3;
    generator1 = e.generator1;
    generator2 = e.generator2;
    interrupts = record {
      latched = cond (last_cycle e.steering.adjustment) (with_bit 0 latched) latched;
      enabled = e.interrupts.enabled;
    };
    words = e.words;
  }
  unfolding tick_engine captured latched
  quiet_tick = rw (generated_same e.generator1 _ _ one, generated_same e.generator2 _ _ two, quiet_latch)

  quiet_values : tick_values e ≡ no_words
  unfolding tick_values
  quiet_values = rw (placed_none e.generator1 _ _ one, placed_none e.generator2 _ _ two)

-- a tick that returns nothing had none due
silent : (e : Engine) → tick_values e ≡ no_words → (due e e.generator1 ≡ false) × (due e e.generator2 ≡ false)
unfolding tick_values
silent e h = (
  sym (placed_due e.generator1 _ _) ∙ ap (λ (v : Words). not (eqb v.w1 0)) h,
  sym (placed_due e.generator2 _ _) ∙ ap (λ (v : Words). not (eqb v.w2 0)) h,
)

-- after n ticks the next tick ends at the time shown n + 1 cycles on, and has the edges that are below it
pub exact_suc : (e : Engine) (n : ℕ)
    → exact e.clock + amount_of e.steering n + cycle_amount (steering_by e.steering n)
    ≡ exact e.clock + amount_of e.steering (suc n)
exact_suc e n = rw Cycles.amount_suc (omega arith)

pub shown_elapsed : (e : Engine) (n : ℕ)
    → shown (elapsed n e).clock + tick_step (elapsed n e) ≡ shown_after e (suc n)
unfolding elapsed shown_after
shown_elapsed e n = Cycles.shown_on _ _ ∙ ap (λ (x : ℕ). x / 2 ^ 24) (exact_suc e n)

pub due_elapsed : (e : Engine) (n : ℕ) (g : Generator)
    → due (elapsed n e) g ≡ is_due_by g (shown_after e (suc n))
unfolding Generator.is_due is_due_by
due_elapsed e n g = ap (λ (t : ℕ). Generator.is_running g && Generator.is_before g t) (shown_elapsed e n)

-- what is not due by a time is not due by an earlier one
pub not_due_earlier : (g : Generator) (t u : ℕ) → u ≤ t → is_due_by g t ≡ false → is_due_by g u ≡ false
unfolding is_due_by Generator.is_before
not_due_earlier g t u h = by (Generator.is_running g)
  where
    by : (r : Bool) → (r && ltb (Generator.pending_total g * 256) (t * g.denominator)) ≡ false
        → (r && ltb (Generator.pending_total g * 256) (u * g.denominator)) ≡ false
    by true l =
        let scaled = mul-le-mul_right g.denominator h in
        le-ltb (Generator.pending_total g * 256) (u * g.denominator) (omega (arith, ltb-false))
    by false l = refl

pub shown_grows : (e : Engine) (n m : ℕ) → n ≤ m → shown_after e n ≤ shown_after e m
unfolding shown_after
shown_grows e n m h = omega (arith, Cycles.amount_grows e.steering n m h)

pub quiet_less : (e : Engine) (n m : ℕ) → n ≤ m → Quiet m e → Quiet n e
quiet_less e n m h q = record {
  generator1 = not_due_earlier e.generator1 _ _ (shown_grows e n m h) q.generator1;
  generator2 = not_due_earlier e.generator2 _ _ (shown_grows e n m h) q.generator2;
}

-- no tick, and one tick more
pub elapsed_zero : (e : Engine) → Valid e → elapsed 0 e ≡ e
unfolding elapsed
elapsed_zero e v =
    let k : clock_at_exact (exact e.clock + amount_of e.steering 0) ≡ e.clock =
    rw (Cycles.amount_zero, add-zero) (Cycles.clock_start e.clock (clock_in e.clock v.clock))
    in
    rw (k, Phases.steering_zero e.steering (steering_in e.steering v.steering), Phases.ends_zero)

module _ (e : Engine) (v : Valid e) (n : ℕ) (q : Quiet (suc n) e) where
  none_due : (due (elapsed n e) e.generator1 ≡ false) × (due (elapsed n e) e.generator2 ≡ false)
  none_due = (due_elapsed e n _ ∙ q.generator1, due_elapsed e n _ ∙ q.generator2)

  pub tick_elapsed : tick_engine (elapsed n e) no_inputs ≡ elapsed (suc n) e
  unfolding elapsed latched
  tick_elapsed =
      let s = steering_in e.steering v.steering in
      quiet_tick (elapsed n e) none_due.0 none_due.1
      ∙ rw (
        Cycles.clock_on,
        exact_suc,
        Phases.steering_suc e.steering s n,
        Phases.latched_suc e.steering s n e.interrupts.latched,
      )

  pub values_elapsed : tick_values (elapsed n e) ≡ no_words
  unfolding elapsed
  values_elapsed = quiet_values (elapsed n e) none_due.0 none_due.1

-- n ticks without an edge are the formula at n. Each step is a lemma, which the induction hands its hypothesis: in a
-- clause, a `rw` by the hypothesis takes more than antt's limit to confirm.
start : (e : Engine) → Valid e → ticks 0 e ≡ elapsed 0 e
unfolding ticks
start e v = sym (elapsed_zero e v)

next : (e : Engine) → Valid e → (n : ℕ) → Quiet (suc n) e → ticks n e ≡ elapsed n e
    → ticks (suc n) e ≡ elapsed (suc n) e
unfolding ticks
next e v n q h = rw h (tick_elapsed e v n q)

pub ticks_elapsed : (e : Engine) → Valid e → (n : ℕ) → Quiet n e → ticks n e ≡ elapsed n e
ticks_elapsed e v zero q = start e v
ticks_elapsed e v (suc n) q = next e v n q (ticks_elapsed e v n (quiet_less e n (suc n) (omega arith) q))

-- no tick of the n returned an edge
abbrev pub Silent : ℕ → Engine → Type 0
Silent n e = (k : ℕ) → k < n → tick_values (ticks k e) ≡ no_words

not_behind : (g : Generator) (now : ℕ) → generator_ok g now ≡ true → is_due_by g now ≡ false
unfolding is_due_by Generator.is_before
not_behind g now ok = by (Generator.is_running g) refl
  where
    by : (r : Bool) → Generator.is_running g ≡ r
        → (r && ltb (Generator.pending_total g * 256) (now * g.denominator)) ≡ false
    by true r = le-ltb _ _ (running_in g now ok r).ahead
    by false r = refl

pub shown_start : (e : Engine) → Valid e → shown_after e 0 ≡ shown e.clock
unfolding shown_after
shown_start e v = omega (arith, Cycles.amount_zero e.steering, (clock_in e.clock v.clock).remainder)

quiet_zero : (e : Engine) → Valid e → Quiet 0 e
quiet_zero e v =
    let now = shown_start e v in
    record {
      generator1 = rw now (not_behind e.generator1 _ v.generator1);
      generator2 = rw now (not_behind e.generator2 _ v.generator2);
    }

quiet_suc : (e : Engine) (n : ℕ) → tick_values (elapsed n e) ≡ no_words → Quiet (suc n) e
unfolding elapsed
quiet_suc e n h =
    let none = silent (elapsed n e) h in
    record { generator1 = sym (due_elapsed e n _) ∙ none.0; generator2 = sym (due_elapsed e n _) ∙ none.1 }

silent_next : (e : Engine) → Valid e → (n : ℕ) → Silent (suc n) e → Quiet n e → Quiet (suc n) e
silent_next e v n h q = quiet_suc e n (rw (ticks_elapsed e v n q) at (h n (omega arith)))

pub silent_quiet : (e : Engine) → Valid e → (n : ℕ) → Silent n e → Quiet n e
silent_quiet e v zero h = quiet_zero e v
silent_quiet e v (suc n) h = silent_next e v n h (silent_quiet e v n (λ k l. h k (omega arith)))

-- n ticks that returned no edge are the formula
pub silent_elapsed : (e : Engine) → Valid e → (n : ℕ) → Silent n e → ticks n e ≡ elapsed n e
silent_elapsed e v n h = ticks_elapsed e v n (silent_quiet e v n h)
