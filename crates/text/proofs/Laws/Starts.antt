-- A text that is shorter than a head does not begin with it, and a head of two parts is one behind the other.
use mathlib.Core.Path.{◌≡◌, refl, ap, ◌∙◌}
use mathlib.Core.List.{List, [], ◌∷◌, ◌++◌}
use mathlib.Core.Bool.{Bool, true, false, false≢true}
use Prim.Native.Nat.{ℕ, zero, suc, ◌≤◌, ◌<◌}
use native.Mathlib.Omega.{arith}
use lib.Dec.{eqb}
use lib.ListN.{length, take, drop, length-append}
use borrow.Author.Tests.{eq-eqb}
use Rattle.text.specs.Text.{starts_with}
use Rattle.model.proofs.Laws.Testing.{both, both_true}
use Rattle.text.proofs.Laws.Splits.{starts_in}

-- a text has the length of what it starts with
pub starts_length : (h s : List ℕ) → starts_with h s ≡ true → length h ≤ length s
starts_length h s e = omega (arith, ap length (starts_in h s e) ∙ length-append h (drop (length h) s))

pub starts_short : (h s : List ℕ) → length s < length h → starts_with h s ≡ false
starts_short h s l = go (starts_with h s) refl
  where
    go : (t : Bool) → starts_with h s ≡ t → starts_with h s ≡ false
    go true e = absurd (omega (arith, starts_length h s e))
    go false e = e

-- a text starts with its first bytes, and with these and those that it has behind them
pub starts_take : (n : ℕ) (s : List ℕ) → starts_with (take n s) s ≡ true
starts_take zero s = refl
starts_take (suc n) [] = refl
starts_take (suc n) (b ∷ s) = both_true _ _ (eq-eqb b b refl) (starts_take n s)

pub starts_then : (h g s : List ℕ) → starts_with h s ≡ true → starts_with g (drop (length h) s) ≡ true
    → starts_with (h ++ g) s ≡ true
starts_then [] g s e behind = behind
starts_then (b ∷ h) g [] e behind = absurd (false≢true e)
starts_then (b ∷ h) g (d ∷ s) e behind =
    let tests = both (eqb d b) (starts_with h s) e in
    both_true _ _ tests.0 (starts_then h g s tests.1 behind)
