-- The codes are two groups of eight, falling and rising: counted from zero, the group is the quotient by eight and the
-- eighth is the rest.
use Prim.Native.Nat.{ℕ, ◌-◌, ◌/◌, ◌%◌, ◌<◌, ◌≤◌}
use mathlib.Core.Path.{◌≡◌, refl}
use mathlib.Core.Bool.{Bool, true, false, cond}
use lib.Dec.{leb}
use native.Mathlib.Omega.{arith}
use borrow.Author.Tests.{leb-true, leb-false}
use Rattle.model.specs.Edges.{code_eighth, code_rising}

pub by_eight : (code : ℕ) → 0 < code → code ≤ 16
    → ((code - 1) % 8 ≡ code_eighth code) × ((code - 1) / 8 ≡ code_rising code)
by_eight code some few = go (leb code 8) refl
  where
    go : (low : Bool) → leb code 8 ≡ low
        → ((code - 1) % 8 ≡ cond low (code - 1) (code - 9)) × ((code - 1) / 8 ≡ cond low 0 1)
    go true e = omega (arith, leb-true)
    go false e = omega (arith, leb-false)
