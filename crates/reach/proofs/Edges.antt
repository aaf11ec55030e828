-- Edges and the end of time as needs. A time shown is above the pending instant exactly when it is q + 1 or more, q
-- being the whole part of the instant in 1/256 ns; and it is shown exactly when the cycles have brought what is
-- missing.
use Prim.Native.Nat.{ℕ, suc, ◌+◌, ◌*◌, ◌-◌, ◌/◌, ◌≤◌, ◌<◌, ◌^◌}
use mathlib.Core.Path.{◌≡◌, refl, sym, ◌∙◌}
use mathlib.Core.Logic.{◌↔◌}
use mathlib.Core.Bool.{Bool, true, false, ◌&&◌, cond}
use native.Mathlib.Nat.{div-lt_iff_lt-mul, le-div_iff_mul-le}
use native.Mathlib.Decide.{dec_le}
use native.Mathlib.Omega.{arith}
use lib.Dec.{eqb, leb, ltb}
use Rattle.std.specs.Prelude.{Some, None}
use Rattle.std.specs.declared.option.Option.{Option}
use borrow.Author.Tests.{le-leb, lt-leb, lt-ltb, le-ltb, leb-true, leb-false, eqb-true, eqb-false}
use Rattle.model.specs.declared.Generator.{Generator}
use Rattle.model.specs.declared.Engine.{Engine}
use Rattle.model.specs.Clock.{shown, exact, end_of_time}
use Rattle.model.specs.Generator.{is_running, is_before, pending_total}
use Rattle.model.specs.Elapse.{amount_of}
use Rattle.model.specs.Ranges.{generator_ok}
use Rattle.model.specs.Bounds.{ClockRange, RunningRange}
use Rattle.model.proofs.Laws.Testing.{leb_same}
use Rattle.model.proofs.Laws.InRange.{Valid, clock_in, running_in}
use Rattle.model.proofs.Laws.Elapsed.{shown_after, is_due_by}
use Rattle.elapse.specs.Seconds.{second, in_second}
use Rattle.reach.specs.Reach.{cycles_to, edge_time, edge_need, edge_tick, ticks_in_time}
use Rattle.reach.proofs.Reached.{reaches, cycles_some}

-- a later time t of 1/256 ns is shown after k cycles exactly when they have brought what is missing until then
pub shown_when : (e : Engine) → Valid e → (t k : ℕ) → shown e.clock < t
    → (t ≤ shown_after e k) ↔ (cycles_to e.steering (t * 2 ^ 24 - exact e.clock) ≤ k)
unfolding shown_after
shown_when e v t k later =
    let low = (clock_in e.clock v.clock).remainder in
    let law = reaches e.steering v.steering (t * 2 ^ 24 - exact e.clock) k (omega arith) in
    (λ h. law.0 (omega arith), λ h. omega (arith, law.1 h))

-- x is below t times d exactly when its whole part over d is below t
ltb_mul : (x t d : ℕ) → 0 < d → ltb x (t * d) ≡ leb (x / d + 1) t
ltb_mul x t d pos =
    elim (dec_le (x / d + 1) t) [
      | yes h ↦ rw (le-leb (x / d + 1) t h) (lt-ltb _ _ ((div-lt_iff_lt-mul pos).0 (omega arith)))
      | no h ↦
          rw (lt-leb (x / d + 1) t (omega arith)) (le-ltb _ _ ((le-div_iff_mul-le {x = t} {y = x} pos).0 (omega arith)))
    ]

before_time : (g : Generator) (t : ℕ) → 0 < g.denominator → is_before g t ≡ leb (edge_time g) t
unfolding is_before edge_time
before_time g t pos = ltb_mul (pending_total g * 256) t g.denominator pos

-- a running generator of a valid record has its edge above the time shown
pub edge_later : (g : Generator) (now : ℕ) → RunningRange g now → now < edge_time g
unfolding edge_time
edge_later g now h =
    let pos : 0 < g.denominator = omega (arith, h.remainder) in
    omega (arith, (le-div_iff_mul-le {x = now} {y = pending_total g * 256} pos).1 h.ahead)

-- a generator of a record, and the tick of its edge in a stretch of m ticks
module _ (e : Engine) (v : Valid e) (g : Generator) (ok : generator_ok g (shown e.clock) ≡ true) where
  abbrev need : ℕ
  need = edge_need g e.clock

  -- it is due by the k-th tick exactly when that has brought what is missing
  due_when : is_running g ≡ true → (k : ℕ) → is_due_by g (shown_after e k) ≡ leb (cycles_to e.steering need) k
  unfolding is_due_by
  due_when r k =
      let h = running_in g (shown e.clock) ok r in
      let law = shown_when e v (edge_time g) k (edge_later g _ h) in
      rw r (before_time g _ (omega (arith, h.remainder)) ∙ leb_same _ _ _ _ law)

  due_amount : is_running g ≡ true → (k : ℕ)
      → is_due_by g (shown_after e k) ≡ leb need (amount_of e.steering k)
  due_amount r k =
      let h = edge_later g (shown e.clock) (running_in g (shown e.clock) ok r) in
      let low = (clock_in e.clock v.clock).remainder in
      let law = reaches e.steering v.steering (edge_need g e.clock) k (omega arith) in
      due_when r k ∙ leb_same _ _ _ _ (law.1, law.0)

  idle_never : is_running g ≡ false → (k : ℕ) → is_due_by g (shown_after e k) ≡ false
  unfolding is_due_by
  idle_never r k = rw r refl

  abbrev pub tick : ℕ → Option ℕ
  tick m = edge_tick g e.clock e.steering (amount_of e.steering m)

  -- what the tick is, by its two tests
  tick_by : (m : ℕ) (r t : Bool) → is_running g ≡ r → leb need (amount_of e.steering m) ≡ t
      → tick m ≡ cond (r && t) (Some (cycles_to e.steering need)) None
  unfolding edge_tick
  tick_by m r t h₁ h₂ = rw (h₁, h₂) refl

  -- no tick: it is not due by the end of the stretch
  pub edge_none : (m : ℕ) → tick m ≡ None → is_due_by g (shown_after e m) ≡ false
  edge_none m z = by (is_running g) refl (leb need (amount_of e.steering m)) refl
    where
      by : (r : Bool) → is_running g ≡ r → (t : Bool) → leb need (amount_of e.steering m) ≡ t
          → is_due_by g (shown_after e m) ≡ false
      by true r true t = let some = tick_by m true true r t in absurd (cc)
      by true r false t = due_amount r m ∙ t
      by false r t q = idle_never r m

  -- a tick: it is among the m, and the generator is due from it on and not before
  pub record EdgeIn (m t : ℕ) : Type 0 where
    pub some : 1 ≤ t
    pub few : t ≤ m
    pub due : (k : ℕ) → is_due_by g (shown_after e k) ≡ leb t k

  pub edge_some : (m t : ℕ) → tick m ≡ Some t → EdgeIn m t
  edge_some m x z = by (is_running g) refl (leb need (amount_of e.steering m)) refl
    where
      by : (r : Bool) → is_running g ≡ r → (t : Bool) → leb need (amount_of e.steering m) ≡ t → EdgeIn m x
      by true r true t =
          let some = tick_by m true true r t in
          let is : x ≡ cycles_to e.steering need = cc in
          rw is
          (record {
            some = cycles_some e.steering need;
            few = leb-true _ _ (sym (due_when r m) ∙ due_amount r m ∙ t);
            due = due_when r;
          })
      by true r false t = let none = tick_by m true false r t in absurd (cc)
      by false r t q = let none = tick_by m false t r q in absurd (cc)

-- the end of time, of n ticks that bring less than a second
module _ (e : Engine) (v : Valid e) (n : ℕ) (short : amount_of e.steering n < 2 ^ 60) where
  c : ClockRange e.clock
  c = clock_in e.clock v.clock

  abbrev pub left : ℕ
  left = ticks_in_time e.clock e.steering n (amount_of e.steering n)

  -- the ticks that are left: the time shown after them is in time; and they are all, or one more would pass the end
  pub record TimeFor (m : ℕ) : Type 0 where
    pub few : m ≤ n
    pub near : shown_after e m < end_of_time
    pub all : (m ≡ n → ⊥) → end_of_time ≤ shown_after e (suc m)

  whole : exact e.clock + amount_of e.steering n < end_of_time * 2 ^ 24 → TimeFor n
  unfolding shown_after
  whole h = record { few = omega arith; near = omega arith; all = λ q. absurd (q refl) }

  cut : e.clock.seconds ≡ 2 ^ 48 - 1 → second ≤ in_second e.clock + amount_of e.steering n
      → TimeFor (cycles_to e.steering (second - in_second e.clock) - 1)
  cut last h =
      let low = c in
      let s = cycles_to e.steering (second - in_second e.clock) in
      let need : end_of_time * 2 ^ 24 - exact e.clock ≡ second - in_second e.clock = omega arith in
      let law : (k : ℕ) → (end_of_time ≤ shown_after e k) ↔ (s ≤ k) =
      λ k. rw need at (shown_when e v end_of_time k (omega arith))
      in
      let some = cycles_some e.steering (second - in_second e.clock) in
      let met = (reaches e.steering v.steering (second - in_second e.clock) n (omega arith)).0 (omega arith) in
      let before = (law (s - 1)).0 in
      record {
        few = omega arith;
        near =
            elim (dec_le end_of_time (shown_after e (s - 1))) [
              | yes l ↦ absurd (omega (arith, before l))
              | no l ↦ omega arith
            ];
        all = λ q. (law (suc (s - 1))).1 (omega arith);
      }

  pub time_for : TimeFor left
  unfolding ticks_in_time
  time_for =
      by (eqb e.clock.seconds (2 ^ 48 - 1)) refl
      (leb second (in_second e.clock + amount_of e.steering n)) refl
    where
      by : (b : Bool) → eqb e.clock.seconds (2 ^ 48 - 1) ≡ b
          → (d : Bool) → leb second (in_second e.clock + amount_of e.steering n) ≡ d
          → TimeFor (cond (b && d) (cycles_to e.steering (second - in_second e.clock) - 1) n)
      by true b true d = cut (eqb-true _ (2 ^ 48 - 1) b) (leb-true second _ d)
      by true b false d =
          let last = eqb-true e.clock.seconds (2 ^ 48 - 1) b in
          let under = leb-false second (in_second e.clock + amount_of e.steering n) d in
          whole (omega (arith, c))
      by false b d q =
          let more = eqb-false e.clock.seconds (2 ^ 48 - 1) b in
          whole (omega (arith, c, short))
