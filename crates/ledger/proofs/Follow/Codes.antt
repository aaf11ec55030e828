-- A returned code tells its edge's direction and eighth again: eight codes for each direction, side by side.
use Prim.Native.Nat.{ℕ, ◌+◌, ◌-◌, ◌<◌, ◌≤◌}
use mathlib.Core.Path.{◌≡◌}
use mathlib.Core.Bool.{false}
use native.Mathlib.Omega.{arith}
use lib.Dec.{eqb}
use borrow.Author.Tests.{eqb-true, eqb-false, le-leb, lt-leb, ne_eqb}
use Rattle.model.specs.Edges.{code_rising, code_eighth, edge_code}
use Rattle.model.proofs.Laws.Testing.{split}

-- a code of an edge of a direction (0 rising, 1 falling) at an eighth
pub record Tells (direction eighth code : ℕ) : Type 0 where
  pub some : eqb code 0 ≡ false
  pub rising : code_rising code ≡ 1 - direction
  pub place : code_eighth code ≡ eighth

rises : (direction p : ℕ) → p < 8 → direction ≡ 0 → Tells direction p (p + 9)
rises direction p few e = record {
  some = ne_eqb (p + 9) 0 (λ z. omega arith);
  rising = rw (lt-leb (p + 9) 8 (omega arith)) (omega arith);
  place = rw (lt-leb (p + 9) 8 (omega arith)) (omega arith);
}

falls : (direction p : ℕ) → p < 8 → direction ≡ 1 → Tells direction p (p + 1)
falls direction p few e = record {
  some = ne_eqb (p + 1) 0 (λ z. omega arith);
  rising = rw (le-leb (p + 1) 8 (omega arith)) (omega arith);
  place = rw (le-leb (p + 1) 8 (omega arith)) (omega arith);
}

pub code_tells : (direction p : ℕ) → direction ≤ 1 → p < 8 → Tells direction p (edge_code direction p)
code_tells direction p d few =
    split (Tells direction p) (eqb direction 0)
    (λ z. rises direction p few (eqb-true direction 0 z))
    (λ z. let n = eqb-false direction 0 z in falls direction p few (omega arith))
