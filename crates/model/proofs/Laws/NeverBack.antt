-- Why a timestamp is the nearest, since half a nanosecond is added and the rest dropped; and why timestamps of one
-- input never go back: rounding keeps the order of instants, an edge lies between the times shown before and after its
-- tick, and no command but a TIME write takes the time shown back.
use Prim.Native.Nat.{ℕ, zero, suc, ◌+◌, ◌*◌, ◌≤◌, ◌<◌}
use native.Mathlib.Nat.{mul-le-mul_right}
use native.Mathlib.Omega.{arith}
use mathlib.Core.Path.{◌≡◌, refl, sym, ap, ◌∙◌}
use mathlib.Core.List.{List, [], ◌∷◌, ◌++◌}
use mathlib.Core.Bool.{Bool, true, false, ◌&&◌, not, true≢false}
use lib.Dec.{eqb}
use borrow.Author.Tests.{eqb-true, eq-eqb, ltb-true, not-true}
use Rattle.model.specs.declared.Engine.{Engine}
use Rattle.model.specs.declared.Command.{Command}
use Rattle.model.specs.declared.Outcome.{Outcome}
use Rattle.model.specs.Clock.{shown, end_of_time, cycle_amount}
use Rattle.model.specs.Edges.{code_eighth, code_rising}
use Rattle.model.specs.Fifo.{last_nanosecond, timestamp_ns, timestamp_at, timestamp_of, is_full, captured}
use Rattle.model.specs.Tick.{tick_step, tick_engine, ticks, no_inputs}
use Rattle.model.specs.Checks.{writes}
use Rattle.model.specs.Execute.{execute}
use Rattle.model.specs.RunLine.{run}
use Rattle.model.specs.RunLine as RunLine
use Rattle.model.specs.OtherOps
use Rattle.model.specs.Preview.{previewed}
use Rattle.model.specs.Departure.{departed, recovered}
use Rattle.model.specs.TimestampsOn.{code_on, fifo_on, brings_edge, edge_instant, edge_ns}
use Rattle.model.specs.TimestampsOn.{timestamps_on, keeps_time, Ascending}
use Rattle.model.specs.Sentences.{Codes}
use Rattle.model.proofs.Laws.Testing.{split, both, both_true}
use Rattle.model.proofs.Laws.ExactTime.{shown_ticked}
use Rattle.model.proofs.Laws.RunTicks.{ran_ticks}
use Rattle.model.proofs.Laws.Accepting.{by_answer, by_op, by_write, commanded_accepted, execute_accepted}
use Rattle.model.proofs.Laws.Accepting.{performed_row, tick_first}
use Rattle.model.proofs.Laws.Listed.{listed_in}
use Rattle.model.proofs.Laws.FifoPlaces.{eighth_small, stored}

-- ---- one timestamp
module _ (a s p : ℕ) where
  pub half_late : 2048 * timestamp_ns a s p ≤ 8 * a + p * s + 1024
  unfolding timestamp_ns
  half_late = omega arith

  pub below_half_early : 8 * a + p * s + 1024 < 2048 * (last_nanosecond + 1)
      → 8 * a + p * s < 2048 * timestamp_ns a s p + 1024
  unfolding timestamp_ns
  below_half_early h = omega arith

  pub last_at_the_end : 2048 * (last_nanosecond + 1) ≤ 8 * a + p * s + 1024 → timestamp_ns a s p ≡ last_nanosecond
  unfolding timestamp_ns
  last_at_the_end h = omega arith

-- an earlier edge has no later timestamp
pub timestamp_grows : (a s p b t q : ℕ) → 8 * a + p * s ≤ 8 * b + q * t → timestamp_ns a s p ≤ timestamp_ns b t q
unfolding timestamp_ns
timestamp_grows a s p b t q h = omega arith

-- ---- the time shown along a list
tick_later : (e : Engine) (c : Command) → shown (tick_engine e c).clock ≡ shown e.clock + tick_step e
unfolding tick_engine
tick_later e c = shown_ticked e.clock (cycle_amount e.steering)

ticks_next : (n : ℕ) (e : Engine) → shown e.clock ≤ shown (ticks n e).clock
    → shown e.clock ≤ shown (ticks (suc n) e).clock
unfolding ticks
ticks_next n e h = omega (arith, tick_later (ticks n e) no_inputs)

ticks_first : (e : Engine) → shown e.clock ≤ shown (ticks 0 e).clock
unfolding ticks
ticks_first e = omega arith

ticks_later : (n : ℕ) (e : Engine) → shown e.clock ≤ shown (ticks n e).clock
ticks_later zero e = ticks_first e
ticks_later (suc n) e = ticks_next n e (ticks_later n e)

-- the time shown is not taken back by what gave this record
abbrev NotBack : Engine → Engine → Type 0
NotBack e x = shown e.clock ≤ shown x.clock

run_later : (e : Engine) (a : ℕ) → NotBack e (RunLine.ran e a).engine
unfolding RunLine.ran
run_later e a = rw (ran_ticks a e).engine (ticks_later (run a e).done e)

written_later : (e : Engine) (selector : ℕ) → (selector ≡ 0 → ⊥) → NotBack e (OtherOps.written e selector)
written_later e selector n =
    by_write (NotBack e) e selector
    (record {
      time = λ a. absurd (n a);
      period = λ a. omega arith;
      adjust = λ a. omega arith;
      none = λ past. omega arith;
    })

read_keeps : (e x : Engine) (n : ℕ) → NotBack e x → NotBack e (OtherOps.read_engine x n)
unfolding OtherOps.read_engine
read_keeps e x n h = split (NotBack e) (eqb n 0) (λ y. h) (λ y. h)

commanded_later : (e : Engine) (write read : ℕ) → (write ≡ 0 → ⊥) → NotBack e (OtherOps.commanded e write read).engine
unfolding OtherOps.commanded
commanded_later e write read n =
    split (λ (x : Outcome). NotBack e x.engine) (eqb read 8)
    (λ y. written_later e write n)
    (λ y. read_keeps e (OtherOps.written e write) read (written_later e write n))

-- an accepted op 2 with write 0
abbrev writes_time : Command → Outcome → Bool
writes_time c x = writes 0 c && eqb x.answer 0

time_written : (e : Engine) (c : Command) → c.op ≡ 2 → c.a ≡ 0
    → writes_time c (OtherOps.commanded e c.a c.b) ≡ true
time_written e c o a =
    both_true _ _ (both_true _ _ (eq-eqb _ _ o) (eq-eqb _ _ a)) (eq-eqb _ _ (commanded_accepted e c.a c.b))

pub execute_later : (e : Engine) (c : Command) → writes_time c (execute e c) ≡ false → NotBack e (execute e c).engine
unfolding OtherOps.interrupts_read previewed departed recovered
execute_later e c =
    by_answer Good e c
    (λ n h. omega arith)
    (λ k. by_op Good e c k.op
    (record {
      tick = λ o h. omega (arith, tick_later e c);
      load = λ o h. omega arith;
      command = λ o h. commanded_later e c.a c.b (λ a. true≢false (sym (time_written e c o a) ∙ h));
      arm = λ o h. omega arith;
      stop = λ o h. omega arith;
      interrupts = λ o h. omega arith;
      mask = λ o h. omega arith;
      status = λ o h. omega arith;
      show = λ o h. omega arith;
      run = λ o h. run_later e c.a;
      preview = λ o h. omega arith;
      depart = λ o h. omega arith;
      recover = λ o h. omega arith;
    }))
  where
    Good : Outcome → Type 0
    Good x = writes_time c x ≡ false → NotBack e x.engine

-- ---- the edges of an input
code_in : (i : ℕ) (c : Command) → Codes c → code_on i c ≤ 16
code_in zero c f = f.input1
code_in (suc zero) c f = f.input2
code_in (suc (suc zero)) c f = f.input3
code_in (suc (suc (suc i))) c f = omega arith

-- the FIFO of an input after a tick
captures_on : (i : ℕ) (e : Engine) (c : Command)
    → fifo_on i (tick_engine e c) ≡ captured (fifo_on i e) (shown e.clock) (tick_step e) (code_on i c)
unfolding tick_engine captured
captures_on zero e c = refl
captures_on (suc zero) e c = refl
captures_on (suc (suc zero)) e c = refl
captures_on (suc (suc (suc i))) e c = refl

module _ (i : ℕ) (e : Engine) (c : Command) (edge : brings_edge i e c ≡ true) where
  performs : (eqb c.op 0 ≡ true) × (eqb (execute e c).answer 0 ≡ true)
  performs =
      both (eqb c.op 0) (eqb (execute e c).answer 0)
      (both (eqb c.op 0 && eqb (execute e c).answer 0) (not (eqb (code_on i c) 0)) edge).0

  is_tick : c.op ≡ 0
  is_tick = eqb-true c.op 0 performs.0

  is_accepted : (execute e c).answer ≡ 0
  is_accepted = eqb-true (execute e c).answer 0 performs.1

  ticks_on : (execute e c).engine ≡ tick_engine e c
  ticks_on = ap (λ (x : Outcome). x.engine) ((execute_accepted e c is_accepted).1 ∙ performed_row e c 0 is_tick)

  ends_later : shown (execute e c).engine.clock ≡ shown e.clock + tick_step e
  ends_later = ap (λ (x : Engine). shown x.clock) ticks_on ∙ tick_later e c

  -- the tick's fields have the code of an edge
  code_small : code_on i c ≤ 16
  code_small = code_in i c ((listed_in c (execute_accepted e c is_accepted).0.fields).tick is_tick).0

  -- between the times shown before and after the tick
  not_before : timestamp_ns (shown e.clock) 0 0 ≤ edge_ns i e c
  not_before =
      timestamp_grows (shown e.clock) 0 0 (shown e.clock) (tick_step e) (code_eighth (code_on i c)) (omega arith)

  within : code_eighth (code_on i c) * tick_step e ≤ 7 * tick_step e
  within = mul-le-mul_right (tick_step e) (eighth_small (code_on i c) code_small)

  not_after : edge_ns i e c ≤ timestamp_ns (shown (execute e c).engine.clock) 0 0
  not_after =
      timestamp_grows (shown e.clock) (tick_step e) (code_eighth (code_on i c)) (shown (execute e c).engine.clock) 0 0
      (omega (arith, ends_later, within))

  -- check 15 lets no tick end behind the end of time
  pub before_the_end : edge_instant i e c < 8 * end_of_time
  before_the_end =
      let near : shown e.clock + tick_step e < end_of_time =
      ltb-true _ _ ((execute_accepted e c is_accepted).0.check15 (tick_first c is_tick)) in
      omega (arith, near, within)

  -- an edge that finds room is stored behind the others
  some_code : eqb (code_on i c) 0 ≡ false
  some_code = not-true _ (both (eqb c.op 0 && eqb (execute e c).answer 0) (not (eqb (code_on i c) 0)) edge).1

  pub stores : is_full (fifo_on i e) ≡ false
      → fifo_on i (execute e c).engine ≡ stored (fifo_on i e) (timestamp_at (edge_ns i e c) (code_rising (code_on i c)))
  unfolding captured timestamp_of
  stores room = ap (fifo_on i) ticks_on ∙ captures_on i e c ∙ rw (some_code, room) refl

-- whatever is not above the time shown, rounded, is not above the timestamps that follow
follow : (i : ℕ) (cs : List Command) (e : Engine) (b : ℕ) → keeps_time e cs ≡ true
    → b ≤ timestamp_ns (shown e.clock) 0 0 → Ascending (b ∷ timestamps_on i e cs)
unfolding timestamps_on keeps_time Ascending
follow i [] e b keeps h = tt
follow i (c ∷ cs) e b keeps h =
    let k = both (not (writes_time c (execute e c))) (keeps_time (execute e c).engine cs) keeps in
    split (λ (l : List ℕ). Ascending (b ∷ l ++ timestamps_on i (execute e c).engine cs)) (brings_edge i e c)
    (λ y. (
      omega (arith, h, not_before i e c y),
      follow i cs (execute e c).engine (edge_ns i e c) k.1 (not_after i e c y),
    ))
    (λ y. follow i cs (execute e c).engine b k.1
    (omega (
      arith,
      h,
      timestamp_grows (shown e.clock) 0 0 (shown (execute e c).engine.clock) 0 0
          (omega (arith, execute_later e c (not-true _ k.0))),
    )))

behind_first : (b : ℕ) (ts : List ℕ) → Ascending (b ∷ ts) → Ascending ts
unfolding Ascending
behind_first b [] h = tt
behind_first b (t ∷ ts) h = h.1

pub ascending : (i : ℕ) (e : Engine) (cs : List Command) → keeps_time e cs ≡ true → Ascending (timestamps_on i e cs)
ascending i e cs keeps = behind_first 0 (timestamps_on i e cs) (follow i cs e 0 keeps (omega arith))
