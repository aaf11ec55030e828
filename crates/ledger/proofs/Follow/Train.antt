-- A generator against its order. The invariant: the edges returned are edges 0 to done - 1, their instants lie behind
-- the time shown, and what is pending is instant number done; or the generator is idle because the count is done, or
-- because instant number done is past the last second, which no time shown ever reaches.
use Prim.Native.Nat.{ℕ, ◌+◌, ◌*◌, ◌-◌, ◌%◌, ◌<◌, ◌≤◌}
use mathlib.Core.Path.{◌≡◌, sym, ◌∙◌}
use mathlib.Core.List.{List}
use mathlib.Core.Bool.{Bool, true, false}
use native.Mathlib.Omega.{arith}
use native.Mathlib.Nat.{mul-le-mul_right, mul_comm, one-mul}
use native.Mathlib.Decide.{ℕ_discrete}
use lib.ListN.{length}
use lib.Dec.{ltb}
use borrow.Author.Tests.{lt-ltb, le-ltb}
use Rattle.model.specs.declared.Generator.{Generator}
use Rattle.model.specs.Clock.{end_of_time}
use Rattle.model.specs.Generator.{is_running, pending_total, interval_total}
use Rattle.model.specs.Ranges.{generator_ok}
use Rattle.ledger.specs.Fractions.{Fraction, over, is_below}
use Rattle.ledger.specs.Ledger.{Edge}
use Rattle.ledger.specs.Instants.{ideal, passed, AlternateFrom, EdgesPassed, LagsFrom}
use Rattle.model.proofs.Laws.Testing.{count_full, count_first}
use Rattle.model.proofs.Laws.InRange.{running_in}
use Rattle.ledger.proofs.Laws.FractionValues.{Is, is_over, is_finer, is_plus, is_part, is_below_test}

-- an order in numbers: start in ns, and the interval as i / d ns
pub record InNumbers (start interval : Fraction) (s i d : ℕ) : Type 0 where
  pub start_is : Is start s 1
  pub interval_is : Is interval i d
  pub wide : 256 * d ≤ i

-- ideal instant k times d
abbrev pub instant : ℕ → ℕ → ℕ → ℕ → ℕ
instant s i d k = s * d + k * i

module _ {start interval : Fraction} {s i d : ℕ} (o : InNumbers start interval s i d) where
  pos : 0 < d
  pos = o.interval_is.unit

  pub ideal_is : (k : ℕ) → Is (ideal start interval k) (instant s i d k) d
  ideal_is k = rw (one-mul d) at (is_plus (is_finer d pos o.start_is) (is_part k 1 (omega arith) o.interval_is))

  -- an ideal instant is below a time shown, in whole numbers
  below_shown : (k now : ℕ) → is_below (ideal start interval k) (over now 256) ≡ ltb (instant s i d k * 256) (now * d)
  below_shown k now =
      is_below_test (is_finer 256 (omega arith) (ideal_is k))
      (rw (mul_comm 256 d) at (is_finer d pos (is_over now 256 (omega arith))))

  -- the instants behind a time shown are the passed ones
  pub passed_done : (count done now : ℕ) → done ≤ count
      → ((k : ℕ) → k < done → instant s i d k * 256 < now * d)
      → (done < count → now * d ≤ instant s i d done * 256)
      → passed start interval count (over now 256) ≡ done
  passed_done count done now within behind ahead = by (ℕ_discrete done count)
    where
      test : ℕ → Bool
      test k = is_below (ideal start interval k) (over now 256)

      yes_behind : (k : ℕ) → k < done → test k ≡ true
      yes_behind k l = below_shown k now ∙ lt-ltb _ _ (behind k l)

      not_ahead : done < count → (k : ℕ) → done ≤ k → test k ≡ false
      not_ahead more k l =
          let far : done * i ≤ k * i = mul-le-mul_right i l in
          below_shown k now ∙ le-ltb (instant s i d k * 256) (now * d) (omega (arith, ahead more))

      by : Dec (done ≡ count) → passed start interval count (over now 256) ≡ done
      by (yes e) = rw (← e) (count_full done test yes_behind)
      by (no n) =
          let more : done < count = omega arith in
          let whole : done + (count - done) ≡ count = omega arith in
          rw (← whole) (count_first done (count - done) test yes_behind (not_ahead more))

-- where the generator stands after its first edges, their number being done
pub data Stands (s i d count done : ℕ) (g : Generator) : Type 0 where
  running : is_running g ≡ true → g.denominator ≡ d → interval_total g ≡ i → pending_total g ≡ instant s i d done
      → done + g.left ≡ count → g.direction ≡ done % 2 → Stands s i d count done g
  complete : is_running g ≡ false → done ≡ count → Stands s i d count done g
  expired : is_running g ≡ false → done < count → end_of_time * d ≤ instant s i d done * 256 → Stands s i d count done g

stands_within : {s i d count done : ℕ} {g : Generator} → Stands s i d count done g → done ≤ count
stands_within (running r d i p l v) = omega arith
stands_within (complete r e) = omega arith
stands_within (expired r l p) = omega arith

stands_ahead : {s i d count done : ℕ} {g : Generator} (now : ℕ) → Stands s i d count done g → generator_ok g now ≡ true
    → now < end_of_time → done < count → now * d ≤ instant s i d done * 256
stands_ahead {g = g} now (running r e₁ e₂ e₃ l v) ok near more =
    let h = (running_in g now ok r).ahead in
    rw (← e₃, ← e₁) h
stands_ahead now (complete r e) ok near more = absurd (omega arith)
stands_ahead {d = d} now (expired r l p) ok near more =
    let h : now * d ≤ end_of_time * d = mul-le-mul_right d (omega arith) in
    omega arith

-- the invariant of a generator whose order stands
pub record Standing (start interval : Fraction) (count : ℕ) (edges : List Edge) (g : Generator) (now : ℕ)
    : Type 0 where
  pub s : ℕ
  pub i : ℕ
  pub d : ℕ
  pub order : InNumbers start interval s i d
  pub alternating : AlternateFrom 0 edges
  pub lags : LagsFrom start interval 0 edges
  pub behind : (k : ℕ) → k < length edges → instant s i d k * 256 < now * d
  pub stands : Stands s i d count (length edges) g

-- it says what demand 3 says of the edges
pub standing_passed : {start interval : Fraction} {count : ℕ} {edges : List Edge} {g : Generator} {now : ℕ}
    → Standing start interval count edges g now → generator_ok g now ≡ true → now < end_of_time
    → EdgesPassed start interval count edges (over now 256)
standing_passed {count = count} {edges = edges} {now = now} t ok near = record {
  start_den = t.order.start_is.den;
  interval_den = t.order.interval_is.den;
  as_many =
      sym (passed_done t.order count (length edges) now (stands_within t.stands) t.behind
      (stands_ahead now t.stands ok near));
  alternating = t.alternating;
}
