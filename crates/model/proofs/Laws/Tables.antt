-- Tables read by number: the row of a number is what the table has there, or the default past its last row. By
-- induction on the table, one row at a time.
use Prim.Native.Nat.{ℕ, zero, suc, ◌+◌, ◌≤◌}
use mathlib.Core.Path.{◌≡◌}
use mathlib.Core.List.{List, [], ◌∷◌}
use native.Mathlib.Omega.{arith}
use lib.ListN.{length, get_or}

-- what each row of a table has, by its number
abbrev pub Each : {A : Type 0} → (ℕ → A → Type 0) → List A → Type 0
Each P [] = Unit {0}
Each P (x ∷ xs) = P 0 x × Each (λ n. P (suc n)) xs

-- a row's, and those of the rows behind it
infixr 5 ◌&◌
abbrev pub ◌&◌ : {A B : Type 0} → A → B → A × B
a & b = (a, b)

-- what each row has, and the default past them, the row that is read has
pub by_row : {A : Type 0} (P : ℕ → A → Type 0) (l : List A) (n : ℕ) (d : A) → Each P l
    → ((k : ℕ) → length l ≤ k → P k d) → P n (get_or l n d)
by_row P [] n d h past = past n (omega arith)
by_row P (x ∷ xs) zero d h past = h.0
by_row P (x ∷ xs) (suc n) d h past = by_row (λ k. P (suc k)) xs n d h.1 (λ k l. past (suc k) (omega arith))

-- n is none of the k numbers from s on, as the last arm of a `match` is told
abbrev pub NoneOf : ℕ → ℕ → ℕ → Type 0
NoneOf s zero n = Unit {0}
NoneOf s (suc k) n = NoneOf s k n × (n ≡ s + k → ⊥)

-- so it is past them
pub past_arms : (s k n : ℕ) → s ≤ n → NoneOf s k n → s + k ≤ n
past_arms s zero n low h = omega arith
past_arms s (suc k) n low h =
    let past = past_arms s k n low h.0 in
    let other = h.1 in
    omega arith
