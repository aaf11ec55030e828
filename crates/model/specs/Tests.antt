-- Tests that compute: lists of tests, and the ordered checks of document 01, "Where each command is checked".
use Rattle.std.specs.Prelude.{ℕ, zero, suc, List, [], ◌∷◌, Bool, true, ◌&&◌, ◌||◌, not, cond}

-- every test of the list holds
abbrev pub every : List Bool → Bool
every [] = true
every (b ∷ bs) = b && every bs

-- the test holds at every index below n
abbrev pub every_below : ℕ → (ℕ → Bool) → Bool
every_below zero test = true
every_below (suc n) test = every_below n test && test n

-- how many indices below n pass the test
unfoldable pub count_below : ℕ → (ℕ → Bool) → ℕ
count_below zero test = zero
count_below (suc n) test = cond (test n) (suc (count_below n test)) (count_below n test)

-- one row of the table of checks
pub record Check : Type 0 where
  pub number : ℕ
  pub holds : Bool

-- a check that is made where it applies, and asks that the test holds
abbrev pub check : ℕ → Bool → Bool → Check
check n applies test = record { number = n; holds = not applies || test }

-- whether the check at a place of a list holds, places counted from 0
abbrev pub holds_at : List Check → ℕ → Bool
holds_at [] i = true
holds_at (k ∷ ks) zero = k.holds
holds_at (k ∷ ks) (suc i) = holds_at ks i

-- the number of the first check that fails, 0 where none does
abbrev pub first_failed : List Check → ℕ
first_failed [] = 0
first_failed (k ∷ ks) = cond k.holds (first_failed ks) k.number
