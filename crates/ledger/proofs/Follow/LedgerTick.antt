-- One tick of a generator whose order stands. An idle generator, or one that is not due, keeps its edges; a due one
-- adds the edge of its pending instant, whose number is the count of those before it, within the bounds of Laws.Lag.
use Prim.Native.Nat.{ℕ, suc, ◌+◌, ◌*◌, ◌-◌, ◌/◌, ◌%◌, ◌<◌, ◌≤◌, ◌^◌}
use mathlib.Core.Path.{◌≡◌, refl, sym, ap, ◌∙◌}
use mathlib.Core.List.{List, [], ◌∷◌, ◌++◌, append-nil}
use mathlib.Core.Bool.{Bool, true, false, ◌&&◌, ◌||◌, not, cond, true≢false}
use native.Mathlib.Omega.{arith}
use native.Mathlib.Nat.{mul_comm, zero-add, add-zero, le-div_iff_mul-le}
use native.Mathlib.Decide.{ℕ_discrete}
use lib.ListN.{length, length-append}
use lib.Dec.{eqb, leb}
use borrow.Author.Tests.{ltb-true, eqb-true, eqb-false, leb-true, ne_eqb}
use Rattle.model.specs.declared.Generator.{Generator}
use Rattle.model.specs.Units.{eighth_unit, ns_per_second, step_unit}
use Rattle.model.specs.Clock.{end_of_time}
use Rattle.model.specs.Edges.{code_rising, code_eighth, edge_code}
use Rattle.model.specs.Generator
use Rattle.model.specs.Ranges.{generator_ok}
use Rattle.model.specs.Bounds.{RunningRange}
use Rattle.model.specs.Run.{Entry}
use Rattle.ledger.specs.Fractions.{Fraction, over, part}
use Rattle.ledger.specs.Ledger.{Edge, Ledger, next_amount}
use Rattle.ledger.specs.Bookings.{code_for, edges_in}
use Rattle.ledger.specs.Instants.{ideal, AlternateFrom, Lag, LagsFrom, eighth_start}
use Rattle.model.proofs.Laws.InRange.{running_in}
use Rattle.ledger.proofs.Laws.FractionValues.{Is, is_over, is_finer, is_plus, is_part, is_below_lem}
use Rattle.model.proofs.Laws.Eighths.{eighth_is_floor}
use Rattle.ledger.proofs.Laws.Lag.{eighth_few, not_early, not_late}
use Rattle.model.proofs.Laws.Generated.{next_total}
use Rattle.ledger.proofs.Follow.Codes.{code_tells}
use Rattle.ledger.proofs.Follow.Train.{instant, ideal_is, Stands, running, complete, expired, Standing}

-- one more edge at the end of a list
alternate_snoc : (k : ℕ) (xs : List Edge) (x : Edge) → AlternateFrom k xs → x.rising ≡ (k + length xs + 1) % 2
    → AlternateFrom k (xs ++ (x ∷ []))
alternate_snoc k [] x h e = (e ∙ ap (λ (n : ℕ). (n + 1) % 2) (add-zero k), tt)
alternate_snoc k (y ∷ ys) x h e =
    (h.0, alternate_snoc (suc k) ys x h.1 (e ∙ ap (λ (n : ℕ). (n + 1) % 2) (omega arith)))

lags_snoc : (start interval : Fraction) (k : ℕ) (xs : List Edge) (x : Edge) → LagsFrom start interval k xs
    → Lag (ideal start interval (k + length xs)) x → LagsFrom start interval k (xs ++ (x ∷ []))
lags_snoc start interval k [] x h l = (rw (add-zero k) at l, tt)
lags_snoc start interval k (y ∷ ys) x h l =
    let e : k + suc (length ys) ≡ suc k + length ys = omega arith in
    (h.0, lags_snoc start interval (suc k) ys x h.1 (rw e at l))

-- what a tick is, in numbers: the time shown a, the step s, the remainders before and after, the amount in 2^-32 ns,
-- and the ledger's exact time and amount
pub record TickIn (a s before left amount : ℕ) (l : Ledger) : Type 0 where
  pub some : 0 < s
  pub small : s ≤ 65536
  pub divided : before + amount ≡ s * step_unit + left
  pub before_low : before < step_unit
  pub left_low : left < step_unit
  pub time : Is l.time (a * step_unit + before) (2 ^ 32)
  pub next_amount : Is (next_amount l.steering) amount (2 ^ 32)

-- the edge of an instant e / d in the tick lags it little enough: all in units of 1 / (2^35 d) ns
module _ {a s before left amount : ℕ} {l : Ledger} (t : TickIn a s before left amount l) where
  abbrev edge : ℕ → ℕ → Edge
  edge rising eighth = record { rising = rising; eighth = eighth; time = l.time; amount = next_amount l.steering }

  -- the edges that a code tells of
  abbrev edges_by : ℕ → List Edge
  edges_by code = cond (eqb code 0) [] (edge (code_rising code) (code_eighth code) ∷ [])

  starts : (r p d : ℕ) → 0 < d
      → Is (eighth_start (edge r p)) ((a * step_unit + before) * 8 * d + p * amount * d) (eighth_unit * d)
  starts r p d pos =
      is_plus (is_finer d pos (is_finer 8 (omega arith) t.time))
      (is_finer d pos (is_part p 8 (omega arith) t.next_amount))

  an_eighth : (d : ℕ) → 0 < d → Is (part 1 8 (next_amount l.steering)) (1 * amount * d) (eighth_unit * d)
  an_eighth d pos = is_finer d pos (is_part 1 8 (omega arith) t.next_amount)

  a_256th : (d : ℕ) → 0 < d → Is (over 1 256) (134217728 * d) (eighth_unit * d)
  a_256th d pos = is_finer d pos (is_finer 134217728 (omega arith) (is_over 1 256 (omega arith)))

  lag : (f : Fraction) (e d : ℕ) → Is f e d → a * d ≤ e * 256 → e * 256 < (a + s) * d
      → (r : ℕ) → Lag f (edge r (8 * (e * 256 - a * d) / (s * d)))
  lag f e d h from to r =
      let p = 8 * (e * 256 - a * d) / (s * d) in
      let pos = h.unit in
      let few = eighth_few e a s before left amount d pos t.some t.divided from to in
      let low = not_early e a s before left amount d pos t.some t.divided from to t.before_low t.left_low in
      let high = not_late e a s before left amount d pos t.some t.divided from to in
      let f_is : Is f (e * eighth_unit) (eighth_unit * d) =
      rw (mul_comm d eighth_unit) at (is_finer eighth_unit (omega arith) h)
      in
      record {
        eighth = few;
        above_minus256th = is_below_lem (starts r p d pos) (is_plus f_is (a_256th d pos)) (omega arith);
        below_eighth = is_below_lem f_is (is_plus (starts r p d pos) (an_eighth d pos)) (omega arith);
      }

  -- a code's edge, told again
  edge_in : (direction p : ℕ) → direction ≤ 1 → p < 8 → edges_by (edge_code direction p) ≡ edge (1 - direction) p ∷ []
  edge_in direction p d few =
      let c = code_tells direction p d few in
      rw (c.some, c.rising, c.place)

-- an instant whose seconds are past the last one is not below the end of time
past_end : (t d : ℕ) → 0 < d → 2 ^ 48 ≤ (Generator.instant_at t d).seconds → end_of_time * d ≤ t * 256
past_end t d pos h =
    let whole : 2 ^ 48 * ns_per_second ≤ t / d = omega arith in
    let all : 2 ^ 48 * ns_per_second * d ≤ t = (le-div_iff_mul-le pos).0 whole in
    omega arith

-- where the generator stands after an edge
module _ (s i d count done : ℕ) (g : Generator) (a : ℕ) (h : RunningRange g a) (e₁ : g.denominator ≡ d)
    (e₂ : Generator.interval_total g ≡ i) (e₃ : Generator.pending_total g ≡ instant s i d done)
    (e₄ : done + g.left ≡ count) (e₅ : g.direction ≡ done % 2) where
  next_instant : Generator.pending_total g + Generator.interval_total g ≡ instant s i d (done + 1)
  next_instant = omega arith

  pos_d : 0 < g.denominator
  pos_d = omega (arith, h.remainder)

  beyond : 2 ^ 48 ≤ (Generator.next_instant g).seconds → end_of_time * d ≤ instant s i d (done + 1) * 256
  unfolding Generator.next_instant
  beyond b = rw (← next_instant, ← e₁) (past_end _ g.denominator pos_d b)

  stands_after : (last past : Bool) → Generator.is_last g ≡ last
      → leb (2 ^ 48) (Generator.next_instant g).seconds ≡ past
      → Stands s i d count (done + 1) (cond (last || past) Generator.idle_generator (Generator.onward g))
  stands_after true past l q = complete refl (omega (arith, eqb-true))
  stands_after false true l q =
      expired refl (omega (arith, eqb-false, h.some)) (beyond (leb-true (2 ^ 48) _ q))
  stands_after false false l q =
      running (ap not (ne_eqb (g.left - 1) 0 (λ z. omega (arith, eqb-false, h.some)))) e₁ e₂
      (next_total g ∙ next_instant) (omega (arith, h.some)) (omega arith)

module _ {a s before left amount : ℕ} {l : Ledger} (t : TickIn a s before left amount l)
    {start interval : Fraction} {count : ℕ} {edges : List Edge} {g : Generator}
    (w : Standing start interval count edges g a) where
  -- nothing came, and the time shown went on
  quiet : Standing start interval count edges g (a + s)
  quiet = record {
    s = w.s;
    i = w.i;
    d = w.d;
    order = w.order;
    alternating = w.alternating;
    lags = w.lags;
    behind = λ k m. omega (arith, w.behind k m);
    stands = w.stands;
  }

  -- one more edge, of instant number done
  grown : (x : Edge) (g' : Generator) → x.rising ≡ (length edges + 1) % 2
      → Lag (ideal start interval (length edges)) x
      → instant w.s w.i w.d (length edges) * 256 < (a + s) * w.d
      → Stands w.s w.i w.d count (length edges + 1) g'
      → Standing start interval count (edges ++ (x ∷ [])) g' (a + s)
  grown x g' r lagging passed after = record {
    s = w.s;
    i = w.i;
    d = w.d;
    order = w.order;
    alternating = alternate_snoc 0 edges x w.alternating (rw zero-add r);
    lags = lags_snoc start interval 0 edges x w.lags (rw zero-add lagging);
    behind = rw length-append past;
    stands = rw length-append after;
  }
    where
      past : (k : ℕ) → k < length edges + 1 → instant w.s w.i w.d k * 256 < (a + s) * w.d
      past k m =
          elim (ℕ_discrete k (length edges)) [
            | yes e ↦ rw e passed
            | no n ↦ omega (arith, w.behind k (omega arith))
          ]

  -- the pending edge came
  due : Stands w.s w.i w.d count (length edges) g → RunningRange g a → Generator.is_running g ≡ true
      → Generator.is_before g (a + s) ≡ true
      → Standing start interval count
      (edges ++ edges_by t (edge_code g.direction (Generator.eighth_of g a s))) (Generator.following g) (a + s)
  unfolding Generator.following Generator.is_before
  due (running r e₁ e₂ e₃ e₄ e₅) h y b =
      let reached = ltb-true (Generator.pending_total g * 256) ((a + s) * g.denominator) b in
      let is : Is (ideal start interval (length edges)) (Generator.pending_total g) g.denominator =
      rw (e₃, e₁) (ideal_is w.order (length edges))
      in
      let lagging = lag t _ _ _ is h.ahead reached (1 - g.direction) in
      rw (
        eighth_is_floor g a s is.unit t.some h.ahead reached,
        edge_in t g.direction _ h.direction lagging.eighth,
      )
      (grown _ _ (omega arith) lagging (rw (← e₃, ← e₁) reached)
      (stands_after w.s w.i w.d count (length edges) g a h e₁ e₂ e₃ e₄ e₅ _ _ refl refl))
  due (complete r e) h y b = absurd (true≢false (sym y ∙ r))
  due (expired r m e) h y b = absurd (true≢false (sym y ∙ r))

  -- every tick, whose code an entry has for the generator
  pub tick_standing : (n : ℕ) (x : Entry) → code_for n x ≡ Generator.placed g a s → generator_ok g a ≡ true
      → Standing start interval count (edges ++ edges_in n l x) (Generator.generated g a s) (a + s)
  unfolding Generator.placed Generator.generated Generator.is_due
  tick_standing n x told ok = rw told (by (Generator.is_running g) refl (Generator.is_before g (a + s)) refl)
    where
      by : (r : Bool) → Generator.is_running g ≡ r → (b : Bool) → Generator.is_before g (a + s) ≡ b
          → Standing start interval count
          (edges ++ edges_by t (cond (r && b) (edge_code g.direction (Generator.eighth_of g a s)) 0))
          (cond (r && b) (Generator.following g) g) (a + s)
      by true r true b = due w.stands (running_in g a ok r) r b
      by true r false b = rw append-nil quiet
      by false r b e = rw append-nil quiet
