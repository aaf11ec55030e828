-- Why a FIFO stays in its ranges: a capture writes one timestamp, of an instant before the end of time, into the
-- first unused place. A read moves each place one down and clears the last, so each place is one that was in range
-- before.
use Prim.Native.Nat.{ℕ, zero, suc, ◌+◌, ◌-◌, ◌^◌, ◌≤◌, ◌<◌}
use native.Mathlib.Nat.{mul-le-mul_right}
use native.Mathlib.Omega.{arith}
use native.Mathlib.Decide.{dec_lt, ℕ_discrete}
use mathlib.Core.Path.{◌≡◌, refl, sym, ap, ◌∙◌}
use mathlib.Core.Logic.{◌≢◌}
use mathlib.Core.List.{List, [], ◌∷◌}
use mathlib.Core.Bool.{Bool, true, false, ◌||◌, cond}
use lib.ListN.{get_or, set, length}
use lib.Seq.{get_or-set_same, get_or-set_other}
use lib.Dec.{eqb, leb, ltb, leb-suc-suc}
use borrow.Author.Tests.{eqb-true, ltb-true, leb-true, leb-false, eqb-false, lt-ltb, le-ltb, le-leb}
use Rattle.model.specs.declared.Timestamp.{Timestamp}
use Rattle.model.specs.declared.Fifo.{Fifo}
use Rattle.model.specs.Units.{ns_per_second}
use Rattle.model.specs.Clock.{end_of_time}
use Rattle.model.specs.Edges.{code_eighth}
use Rattle.model.specs.Fifo.{no_timestamp, timestamp_ns, timestamp_of}
use Rattle.model.specs.Fifo.{is_empty, is_full, captured, entry, popped}
use Rattle.model.specs.Ranges.{seconds_ok, nanoseconds_ok, timestamp_ok, timestamp_zero, place_ok, fifo_ok}
use Rattle.model.specs.Tests.{every_below}
use Rattle.model.proofs.Laws.Testing.{both, both_true, facts, all_of, below_all, all_below}

-- ---- the timestamp of an edge

pub eighth_small : (code : ℕ) → code ≤ 16 → code_eighth code ≤ 7
eighth_small code h = go (leb code 8) refl
  where
    go : (low : Bool) → leb code 8 ≡ low → cond low (code - 1) (code - 9) ≤ 7
    go true e = omega (arith, leb-true)
    go false e = omega arith

rising_small : (low : Bool) → cond low 0 1 ≤ 1
rising_small true = omega arith
rising_small false = omega arith

-- the tests of `timestamp_ok` and of `timestamp_zero`
abbrev timestamp_tests : Timestamp → List Bool
timestamp_tests t = seconds_ok t.seconds ∷ nanoseconds_ok t.nanoseconds ∷ leb t.rising 1 ∷ []

abbrev zero_tests : Timestamp → List Bool
zero_tests t = eqb t.seconds 0 ∷ eqb t.nanoseconds 0 ∷ eqb t.rising 0 ∷ []

pub timestamp_ok_lem : (a s code : ℕ) → code ≤ 16 → a + s < end_of_time → timestamp_ok (timestamp_of a s code) ≡ true
unfolding timestamp_ok timestamp_of timestamp_ns
timestamp_ok_lem a s code c h =
    let p = mul-le-mul_right s (eighth_small code c) in
    let q = rising_small (leb code 8) in
    all_of (timestamp_tests (timestamp_of a s code)) (omega (arith, lt-ltb, le-leb))

-- ---- the places of a FIFO

place_used : (f : Fifo) (i : ℕ) → i < f.count → place_ok f i ≡ timestamp_ok (entry f i)
unfolding place_ok
place_used f i h = rw (lt-ltb i f.count h)

place_unused : (f : Fifo) (i : ℕ) → f.count ≤ i → place_ok f i ≡ timestamp_zero (entry f i)
unfolding place_ok
place_unused f i h = rw (le-ltb i f.count h)

-- what `fifo_ok` tests, as facts
record InRange (f : Fifo) : Type 0 where
  few : f.count ≤ 8
  places : (i : ℕ) → i < 8 → place_ok f i ≡ true

in_range : (f : Fifo) → fifo_ok f ≡ true → InRange f
unfolding fifo_ok
in_range f h =
    let p = both (leb f.count 8) (every_below 8 (place_ok f)) h in
    record { few = leb-true f.count 8 p.0; places = below_all 8 (place_ok f) p.1 }

fifo_ok_lem : (f : Fifo) → InRange f → fifo_ok f ≡ true
unfolding fifo_ok
fifo_ok_lem f r = both_true _ _ (le-leb f.count 8 r.few) (all_below 8 (place_ok f) r.places)

-- a used place holds a timestamp in range
pub used_in : (f : Fifo) (i : ℕ) → fifo_ok f ≡ true → i < 8 → i < f.count
    → ((entry f i).seconds < 2 ^ 48) × ((entry f i).nanoseconds < ns_per_second) × ((entry f i).rising ≤ 1)
unfolding timestamp_ok
used_in f i h l u =
    let t = facts (timestamp_tests (entry f i)) (sym (place_used f i u) ∙ (in_range f h).places i l) in
    omega (arith, ltb-true, leb-true)

-- an unused place is all zeros
pub unused_in : (f : Fifo) (i : ℕ) → fifo_ok f ≡ true → i < 8 → f.count ≤ i → entry f i ≡ no_timestamp
unused_in f i h l u =
    let t = facts (zero_tests (entry f i)) (sym (place_unused f i u) ∙ (in_range f h).places i l) in
    let s = eqb-true _ _ t.0 in
    let n = eqb-true _ _ t.1.0 in
    let r = eqb-true _ _ t.1.1.0 in
    λ j. record { seconds = s j; nanoseconds = n j; rising = r j }

pub oldest_rising : (f : Fifo) → is_empty f ≡ false → fifo_ok f ≡ true → (entry f 0).rising ≤ 1
oldest_rising f e h = (used_in f 0 h (omega arith) (omega (arith, eqb-false))).2

pub count_in : (f : Fifo) → fifo_ok f ≡ true → f.count ≤ 8
count_in f h = (in_range f h).few

-- ---- a capture

-- the place written holds the timestamp, or, where the list has no such place, still reads as zero
written_ok :
    (l : List Timestamp) (n : ℕ) (t : Timestamp) →
    timestamp_ok t ≡ true → timestamp_ok (get_or (set l n t) n no_timestamp) ≡ true
unfolding timestamp_ok
written_ok [] n t h = refl
written_ok (x ∷ xs) zero t h = h
written_ok (x ∷ xs) (suc n) t h = written_ok xs n t h

abbrev pub stored : Fifo → Timestamp → Fifo
stored f t = record { entries = set f.entries f.count t; count = f.count + 1 }

-- it is read where it was written, in a list with that place, and every other place is as it was
pub read_stored : (f : Fifo) (t : Timestamp) → f.count < length f.entries → entry (stored f t) f.count ≡ t
read_stored f t h = get_or-set_same f.entries f.count t no_timestamp h

pub others_kept : (f : Fifo) (t : Timestamp) (j : ℕ) → j ≢ f.count → entry (stored f t) j ≡ entry f j
others_kept f t j h = get_or-set_other f.entries f.count j t no_timestamp h

module _ (f : Fifo) (t : Timestamp) (ok : timestamp_ok t ≡ true) (r : InRange f) where
  stored_place : (i : ℕ) → i < 8 → place_ok (stored f t) i ≡ true
  stored_place i l = go (dec_lt i f.count) (ℕ_discrete i f.count)
    where
      go : Dec (i < f.count) → Dec (i ≡ f.count) → place_ok (stored f t) i ≡ true
      go (yes u) d =
          place_used (stored f t) i (omega arith)
          ∙ ap timestamp_ok (others_kept f t i (omega arith))
          ∙ sym (place_used f i u)
          ∙ r.places i l
      go (no u) (yes e) =
          place_used (stored f t) i (omega arith) ∙ rw e (written_ok f.entries f.count t ok)
      go (no u) (no e) =
          place_unused (stored f t) i (omega arith)
          ∙ ap timestamp_zero (others_kept f t i e)
          ∙ sym (place_unused f i (omega arith))
          ∙ r.places i l

pub captured_ok :
    (f : Fifo) (a s code : ℕ) →
    code ≤ 16 → a + s < end_of_time → fifo_ok f ≡ true → fifo_ok (captured f a s code) ≡ true
unfolding captured
captured_ok f a s code c h ok = go (eqb code 0) (is_full f) refl
  where
    t : Timestamp
    t = timestamp_of a s code

    go : (none full : Bool) → is_full f ≡ full → fifo_ok (cond (none || full) f (stored f t)) ≡ true
    go true full e = ok
    go false true e = ok
    go false false e =
        let r = in_range f ok in
        fifo_ok_lem (stored f t)
        (record { few = omega (arith, leb-false); places = stored_place f t (timestamp_ok_lem a s code c h) r })

-- ---- a read

-- n values of g from 0 on, then zero
abbrev row : (ℕ → Timestamp) → ℕ → List Timestamp
row g zero = no_timestamp ∷ []
row g (suc n) = g zero ∷ row (λ i. g (suc i)) n

row_at : (g : ℕ → Timestamp) (n i : ℕ) → i < n → get_or (row g n) i no_timestamp ≡ g i
row_at g zero i h = absurd (omega arith)
row_at g (suc n) zero h = refl
row_at g (suc n) (suc i) h = row_at (λ j. g (suc j)) n i (omega arith)

one_less : (i n : ℕ) → 0 < n → ltb i (n - 1) ≡ ltb (suc i) n
one_less i zero h = absurd (omega arith)
one_less i (suc n) h = let e : suc n - 1 ≡ n = omega arith in rw (e, leb-suc-suc)

module _ (f : Fifo) (some_used : 0 < f.count) (r : InRange f) where
  -- place i of the FIFO after the read is place i + 1 before it
  popped_place : (i : ℕ) → i < 7 → place_ok (popped f) i ≡ place_ok f (suc i)
  unfolding place_ok popped
  popped_place i h = rw (one_less i f.count, row_at (λ j. entry f (suc j)) 7 i)

  last_place : place_ok (popped f) 7 ≡ true
  unfolding popped
  last_place = place_unused (popped f) 7 (omega (arith, r.few))

  popped_places : (i : ℕ) → i < 8 → place_ok (popped f) i ≡ true
  popped_places i l = go (dec_lt i 7)
    where
      go : Dec (i < 7) → place_ok (popped f) i ≡ true
      go (yes u) = popped_place i u ∙ r.places (suc i) (omega arith)
      go (no u) = let e : i ≡ 7 = omega arith in rw e last_place

pub popped_ok : (f : Fifo) → is_empty f ≡ false → fifo_ok f ≡ true → fifo_ok (popped f) ≡ true
unfolding popped
popped_ok f e h =
    let r = in_range f h in
    fifo_ok_lem (popped f) (record { few = omega arith; places = popped_places f (omega (arith, eqb-false)) r })
