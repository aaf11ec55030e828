-- A carry by comparison: a sum below twice the limit of its place carries one where it reaches the limit, else none,
-- so that what is left is below the limit.
use Prim.Native.Nat.{ℕ, ◌+◌, ◌*◌, ◌≤◌, ◌<◌}
use mathlib.Core.Path.{◌≡◌, refl}
use mathlib.Core.Bool.{Bool, true, false, cond}
use native.Mathlib.Omega.{arith}
use lib.Dec.{leb}
use borrow.Author.Tests.{leb-true, leb-false}

pub record Carries (limit sum c : ℕ) : Type 0 where
  pub one : c ≤ 1
  pub full : c * limit ≤ sum
  pub most : sum < (c + 1) * limit

pub carries : (limit sum c : ℕ) → c ≡ cond (leb limit sum) 1 0 → sum < 2 * limit → Carries limit sum c
carries limit sum c is low = rw is (by (leb limit sum) refl)
  where
    by : (b : Bool) → leb limit sum ≡ b → Carries limit sum (cond b 1 0)
    by true e = omega (arith, leb-true limit sum e)
    by false e = omega (arith, leb-false limit sum e)
