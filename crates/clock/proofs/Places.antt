-- An order decided place by place: the first place at which two numbers differ decides, and where they agree the
-- rest does. And two tests are the same where each side of one gives the same side of the other.
use mathlib.Core.Path.{◌≡◌, sym, ◌∙◌}
use mathlib.Core.Bool.{Bool, true, false, ◌||◌, ◌&&◌}
use Prim.Native.Nat.{ℕ, ◌<◌, ◌≤◌}
use native.Mathlib.Decide.{dec_lt}
use native.Mathlib.Omega.{arith}
use lib.Dec.{ltb, eqb}
use borrow.Author.Tests.{lt-ltb, le-ltb, eq-eqb, ne_eqb}

-- the higher place decides; where it is level, the rest does
pub by_place : (a b : ℕ) (rest test : Bool)
    → (a < b → test ≡ true)
    → (b < a → test ≡ false)
    → (a ≡ b → test ≡ rest)
    → (ltb a b || (eqb a b && rest)) ≡ test
by_place a b rest test below above level = go (dec_lt a b) (dec_lt b a)
  where
    go : Dec (a < b) → Dec (b < a) → (ltb a b || (eqb a b && rest)) ≡ test
    go (yes l) d = rw (lt-ltb a b l) (sym (below l))
    go (no l) (yes m) =
        let n : a ≡ b → ⊥ = λ e. omega arith in
        let h : b ≤ a = omega arith in
        rw (le-ltb a b h, ne_eqb a b n) (sym (above m))
    go (no l) (no m) =
        let e : a ≡ b = omega arith in
        let h : b ≤ a = omega arith in
        rw (le-ltb a b h, eq-eqb a b e) (sym (level e))

pub same_test : (a b m n : ℕ) → (a < b → m < n) → (b ≤ a → n ≤ m) → ltb a b ≡ ltb m n
same_test a b m n below above = go (dec_lt a b)
  where
    go : Dec (a < b) → ltb a b ≡ ltb m n
    go (yes l) = lt-ltb a b l ∙ sym (lt-ltb m n (below l))
    go (no l) = let h : b ≤ a = omega arith in le-ltb a b h ∙ sym (le-ltb m n (above h))
