-- Tests of three FIFOs may be made place by place or FIFO by FIFO, since conjunction is associative and commutative.
use mathlib.Core.Path.{◌≡◌, refl, sym}
use mathlib.Core.Bool.{Bool, true, false, ◌&&◌, and-false, and_assoc}
use Prim.Native.Nat.{ℕ, zero, suc}
use Rattle.model.specs.declared.Fifo.{Fifo}
use Rattle.model.specs.Tests.{every_below}
use Rattle.fifo_places.specs.Fifos.{of_three}

pub and_left_comm : (a b c : Bool) → (a && (b && c)) ≡ (b && (a && c))
and_left_comm true b c = refl
and_left_comm false b c = sym (and-false b)

-- with a test of each FIFO before those of its places
pub by_fifos : (n : ℕ) (few : Fifo → Bool) (test : Fifo → ℕ → Bool) (x y z : Fifo)
    → (of_three few x y z && every_below n (λ i. of_three (λ f. test f i) x y z))
    ≡ of_three (λ f. few f && every_below n (test f)) x y z
by_fifos n few test x y z = rw (places n) (simp (and_assoc, and_left_comm))
  where
    places : (n : ℕ)
        → every_below n (λ i. of_three (λ f. test f i) x y z) ≡ of_three (λ f. every_below n (test f)) x y z
    places zero = refl
    places (suc n) = rw (places n) (simp (and_assoc, and_left_comm))
