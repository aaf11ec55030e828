-- Laws of tests and of ordered checks. They hold by induction on the list, or on the bound, one test at a time.
use Prim.Native.Nat.{ℕ, zero, suc, ◌+◌, ◌<◌, ◌≤◌}
use mathlib.Core.Path.{◌≡◌, refl, ap}
use mathlib.Core.Logic.{◌↔◌}
use mathlib.Core.List.{List, [], ◌∷◌}
use mathlib.Core.Bool.{Bool, true, false, ◌&&◌, ◌||◌, not, cond, and-eq-true_iff}
use lib.ListN.{length}
use native.Mathlib.Nat.{add-zero, add-suc}
use native.Mathlib.Decide.{ℕ_discrete, dec_le}
use native.Mathlib.Omega.{arith}
use lib.Dec.{leb}
use borrow.Author.Tests.{le-leb, lt-leb}
use Rattle.model.specs.Tests.{every, every_below, count_below, Check, holds_at, first_failed}

-- both arms of a test, each with what the test said
pub split : {A : Type 0} (P : A → Type 0) (b : Bool) {x y : A} → (b ≡ true → P x) → (b ≡ false → P y) → P (cond b x y)
split P true f g = f refl
split P false f g = g refl

-- a conjunction taken apart, and put together
pub both : (a b : Bool) → (a && b) ≡ true → (a ≡ true) × (b ≡ true)
both a b = (and-eq-true_iff a b).0

pub both_true : (a b : Bool) → a ≡ true → b ≡ true → (a && b) ≡ true
both_true a b p q = (and-eq-true_iff a b).1 (p, q)

pub or_left : (a b : Bool) → (a || b) ≡ true → b ≡ false → a ≡ true
or_left true b h n = refl
or_left false b h n = cc

pub or_right : (a b : Bool) → b ≡ true → (a || b) ≡ true
or_right true b h = refl
or_right false b h = h

-- a disjunction that fails
pub neither : (a b : Bool) → (a || b) ≡ false → (a ≡ false) × (b ≡ false)
neither true b h = (h, cc)
neither false b h = (refl, h)

-- two tests of order that say the same
pub leb_same : (a b c d : ℕ) → (a ≤ b) ↔ (c ≤ d) → leb a b ≡ leb c d
leb_same a b c d h =
    elim (dec_le a b) [
      | yes l ↦ rw (le-leb a b l, le-leb c d (h.0 l))
      | no l ↦ let n : c ≤ d → ⊥ = λ m. l (h.1 m) in rw (lt-leb a b (omega arith), lt-leb c d (omega arith))
    ]

-- what a check asks, where it applies
pub asked : (applies test : Bool) → (not applies || test) ≡ true → applies ≡ true → test ≡ true
asked true test h a = h
asked false test h a = cc

-- a list of tests that hold, as facts
abbrev pub Every : List Bool → Type 0
Every [] = Unit {0}
Every (b ∷ bs) = (b ≡ true) × Every bs

pub facts : (l : List Bool) → every l ≡ true → Every l
facts [] h = tt
facts (b ∷ bs) h = let p = both b (every bs) h in (p.0, facts bs p.1)

pub all_of : (l : List Bool) → Every l → every l ≡ true
all_of [] h = refl
all_of (b ∷ bs) h = both_true b (every bs) h.0 (all_of bs h.1)

-- a test that holds below a bound, as facts
pub below_all : (n : ℕ) (test : ℕ → Bool) → every_below n test ≡ true → (i : ℕ) → i < n → test i ≡ true
below_all zero test h i l = absurd (omega arith)
below_all (suc n) test h i l =
    let parts = both (every_below n test) (test n) h in
    elim (ℕ_discrete i n) [ yes e ↦ rw e parts.1 | no e ↦ below_all n test parts.0 i (omega arith) ]

pub all_below : (n : ℕ) (test : ℕ → Bool) → ((i : ℕ) → i < n → test i ≡ true) → every_below n test ≡ true
all_below zero test h = refl
all_below (suc n) test h = both_true _ _ (all_below n test (λ i l. h i (omega arith))) (h n (omega arith))

-- a test that holds exactly below k is passed by k indices
pub count_full : (k : ℕ) (test : ℕ → Bool) → ((i : ℕ) → i < k → test i ≡ true) → count_below k test ≡ k
unfolding count_below
count_full zero test h = refl
count_full (suc k) test h = rw (h k (omega arith)) (ap suc (count_full k test (λ i l. h i (omega arith))))

pub count_first : (k m : ℕ) (test : ℕ → Bool)
    → ((i : ℕ) → i < k → test i ≡ true)
    → ((i : ℕ) → k ≤ i → test i ≡ false)
    → count_below (k + m) test ≡ k
unfolding count_below
count_first k zero test h g = rw add-zero (count_full k test h)
count_first k (suc m) test h g = rw (add-suc, g (k + m) (omega arith)) (count_first k m test h g)

-- the checks are numbered n, n + 1, ..
abbrev pub Numbered : ℕ → List Check → Type 0
Numbered n [] = Unit {0}
Numbered n (k ∷ ks) = (k.number ≡ n) × Numbered (suc n) ks

-- the first failed check has a number of the list
pub answer_least : (n : ℕ) (ks : List Check) → Numbered n ks → 0 < first_failed ks → n ≤ first_failed ks
answer_least n [] m h = absurd (omega arith)
answer_least n (k ∷ ks) m h = at k.holds (answer_least (suc n) ks m.1) h
  where
    at : (b : Bool) → (0 < first_failed ks → suc n ≤ first_failed ks)
        → 0 < cond b (first_failed ks) k.number → n ≤ cond b (first_failed ks) k.number
    at true least h = omega (arith, least h)
    at false least h = omega (arith, m.0)

pub answer_most : (n : ℕ) (ks : List Check) → Numbered (suc n) ks → first_failed ks ≤ n + length ks
answer_most n [] m = omega arith
answer_most n (k ∷ ks) m = at k.holds (answer_most (suc n) ks m.1)
  where
    at : (b : Bool) → first_failed ks ≤ suc n + length ks → cond b (first_failed ks) k.number ≤ n + suc (length ks)
    at true most = omega arith
    at false most = omega (arith, m.0)

-- a check that fails, with all above it passed, is the answer
pub fails_answer : (n : ℕ) (ks : List Check)
    → Numbered n ks
    → (i : ℕ)
    → holds_at ks i ≡ false
    → ((j : ℕ) → j < i → holds_at ks j ≡ true)
    → first_failed ks ≡ n + i
fails_answer n [] m i h a = cc
fails_answer n (k ∷ ks) m zero h a = rw h (omega (arith, m.0))
fails_answer n (k ∷ ks) m (suc i) h a =
    rw (a 0 (omega arith))
    (omega (arith, fails_answer (suc n) ks m.1 i h (λ j l. a (suc j) (omega arith))))

-- the answer is the number of a check that fails, with all above it passed
abbrev pub FailsAt : List Check → ℕ → Type 0
FailsAt ks i = (holds_at ks i ≡ false) × ((j : ℕ) → j < i → holds_at ks j ≡ true)

one_more : (k : Check) (ks : List Check) (i : ℕ) → k.holds ≡ true → FailsAt ks i → FailsAt (k ∷ ks) (suc i)
one_more k ks i e r = (r.0, above)
  where
    above : (j : ℕ) → j < suc i → holds_at (k ∷ ks) j ≡ true
    above zero l = e
    above (suc j) l = r.1 j (omega arith)

pub answer_fails : (n : ℕ) (ks : List Check) → Numbered (suc n) ks → (i : ℕ) → first_failed ks ≡ suc n + i
    → FailsAt ks i
answer_fails n [] m i h = absurd (omega arith)
answer_fails n (k ∷ ks) m i h = at k.holds refl (answer_fails (suc n) ks m.1) i h
  where
    at : (b : Bool) → k.holds ≡ b → ((i : ℕ) → first_failed ks ≡ suc (suc n) + i → FailsAt ks i)
        → (i : ℕ) → cond b (first_failed ks) k.number ≡ suc n + i → FailsAt (k ∷ ks) i
    at false e rest zero h = (e, λ j l. absurd (omega arith))
    at false e rest (suc i) h = absurd (omega (arith, m.0))
    at true e rest zero h = absurd (omega (arith, answer_least (suc (suc n)) ks m.1 (omega arith)))
    at true e rest (suc i) h = one_more k ks i e (rest i (omega arith))

-- no check failed: every one holds
pub answer_none : (n : ℕ) (ks : List Check) → Numbered (suc n) ks → first_failed ks ≡ 0 → (i : ℕ) → holds_at ks i ≡ true
answer_none n [] m h i = refl
answer_none n (k ∷ ks) m h i = at k.holds refl (answer_none (suc n) ks m.1) h i
  where
    at : (b : Bool) → k.holds ≡ b → (first_failed ks ≡ 0 → (i : ℕ) → holds_at ks i ≡ true)
        → cond b (first_failed ks) k.number ≡ 0 → (i : ℕ) → holds_at (k ∷ ks) i ≡ true
    at false e rest h i = absurd (omega (arith, m.0))
    at true e rest h zero = e
    at true e rest h (suc i) = rest h i

-- every one holds: no check failed
pub none_answer : (ks : List Check) → ((i : ℕ) → i < length ks → holds_at ks i ≡ true) → first_failed ks ≡ 0
none_answer [] h = refl
none_answer (k ∷ ks) h = rw (h 0 (omega arith)) (none_answer ks (λ i l. h (suc i) (omega arith)))
