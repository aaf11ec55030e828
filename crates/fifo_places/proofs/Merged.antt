-- Two numbers merged into one by `|`: it is below a power of 2 just where both are, since a bit is set where one of
-- the two has it set.
use mathlib.Core.Path.{◌≡◌, refl, sym, ◌∙◌}
use mathlib.Core.Bool.{◌&&◌}
use Prim.Native.Nat.{ℕ, zero, suc, ◌^◌}
use native.Mathlib.Omega.{arith}
use lib.Bits.{bit_or, or_lt, or_comm}
use lib.Dec.{ltb, leb, eqb, leb-suc-suc, leb-suc-zero, eqb-suc-zero}
use borrow.Author.Tests.{ltb-true, lt-ltb}
use Rattle.model.proofs.Laws.Testing.{both, both_true}
use Rattle.interrupts.proofs.Masks.{le_or, both_ways}

pub or_below : (k x y : ℕ) → ltb (bit_or x y) (2 ^ k) ≡ (ltb x (2 ^ k) && ltb y (2 ^ k))
or_below k x y =
    let n = 2 ^ k in
    both_ways (ltb (bit_or x y) n) (ltb x n && ltb y n)
    (λ t. let l = ltb-true (bit_or x y) n t in
    both_true _ _ (lt-ltb x n (omega (arith, le_or x y))) (lt-ltb y n (omega (arith, le_or y x, or_comm x y))))
    (λ t. let h = both (ltb x n) (ltb y n) t in
    lt-ltb (bit_or x y) n (or_lt k x y (ltb-true x n h.0) (ltb-true y n h.1)))

-- 0 is what is below 1, and 0 and 1 are what is below 2
zero_below : (x : ℕ) → eqb x 0 ≡ ltb x 1
zero_below zero = refl
zero_below (suc x) = eqb-suc-zero x ∙ sym (leb-suc-suc (suc x) 0 ∙ leb-suc-zero x)

pub or_zero : (x y : ℕ) → eqb (bit_or x y) 0 ≡ (eqb x 0 && eqb y 0)
or_zero x y = simp zero_below (or_below 0 x y)

pub or_flag : (x y : ℕ) → leb (bit_or x y) 1 ≡ (leb x 1 && leb y 1)
or_flag x y = rw (← leb-suc-suc (bit_or x y) 1, ← leb-suc-suc x 1, ← leb-suc-suc y 1) (or_below 1 x y)
