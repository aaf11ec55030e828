-- Examples are as stated where a test that computes says so.
use Prim.Native.Nat.{ℕ}
use mathlib.Core.Path.{◌≡◌, refl}
use mathlib.Core.List.{List, [], ◌∷◌, map}
use mathlib.Core.Bool.{Bool, true, false, ◌&&◌, false≢true}
use lib.Dec.{eqb}
use borrow.Author.Tests.{eqb-true}
use Rattle.model.proofs.Laws.Testing.{both}
use Rattle.model.proofs.Examples.Runs.{Example}

-- two lists of numbers are compared number by number, so that a list that is not as stated fails at once
unfoldable pub same : List ℕ → List ℕ → Bool
same [] [] = true
same [] (n ∷ ns) = false
same (m ∷ ms) [] = false
same (m ∷ ms) (n ∷ ns) = eqb m n && same ms ns

same_equal : (ms ns : List ℕ) → same ms ns ≡ true → ms ≡ ns
unfolding same
same_equal [] [] h = refl
same_equal [] (n ∷ ns) h = absurd (false≢true h)
same_equal (m ∷ ms) [] h = absurd (false≢true h)
same_equal (m ∷ ms) (n ∷ ns) h =
    let t = both (eqb m n) (same ms ns) h in
    rw (eqb-true m n t.0, same_equal ms ns t.1)

unfoldable pub as_stated : List Example → Bool
as_stated [] = true
as_stated (x ∷ xs) = same x.found x.stated && as_stated xs

pub stated_equal : (xs : List Example) → as_stated xs ≡ true
    → map (λ (x : Example). x.found) xs ≡ map (λ (x : Example). x.stated) xs
unfolding as_stated
stated_equal [] h = refl
stated_equal (x ∷ xs) h =
    let t = both (same x.found x.stated) (as_stated xs) h in
    rw (same_equal x.found x.stated t.0, stated_equal xs t.1)
