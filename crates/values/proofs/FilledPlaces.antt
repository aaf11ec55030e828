-- A value that is taken goes into its place, and the front of what is left, with the numbers before it, is the front
-- of the whole line; a part that is no value ends it.
use Prim.Native.Nat.{ℕ, suc, ◌+◌, ◌≤◌, ◌<◌}
use mathlib.Core.Path.{◌≡◌, refl, sym, ap, ◌∙◌}
use mathlib.Core.Bool.{Bool, true, false, cond}
use mathlib.Core.List.{List, [], ◌∷◌, ◌++◌, append_assoc, append-nil}
use native.Mathlib.Numerals.{add-one}
use native.Mathlib.Decide.{dec_lt}
use native.Mathlib.Omega.{arith}
use lib.Dec.{ltb}
use lib.ListN.{length, take, drop, get_or, set, length-set, length-drop, take-append-drop, drop_of_length-le}
use lib.Seq.{take-suc-set, drop-set-lt, drop-cons, take_all}
use borrow.Author.Tests.{lt-ltb, ltb-true}
use Rattle.std.specs.Prelude.{Some, None}
use Rattle.text.specs.Text.{comma, number_of, is_value, value_of, parts, first_part}
use Rattle.text.proofs.Laws.Splits.{parts_some}
use Rattle.values.specs.declared.Taken.{Taken}
use Rattle.values.specs.Taking.{TakenFrom}
use Rattle.values.specs.Fronts.{Found, with_first, front_in}
use Rattle.text.proofs.Laws.FirstPart.{parts_last, parts_more}
use Rattle.digits.proofs.Values.{value_some, value_none}

-- numbers in the first places, before what is found for the others
abbrev ahead : List ℕ → Found → Found
ahead xs f = record { ok = f.ok; numbers = xs ++ f.numbers; end = f.end }

ahead_first : (xs : List ℕ) (n : ℕ) (f : Found) → ahead (xs ++ (n ∷ [])) f ≡ ahead xs (with_first n f)
ahead_first xs n f = rw append_assoc refl

-- the first part is a value, or none
front_value : (n : ℕ) (ns : List ℕ) (at : ℕ) (p : List ℕ) (ps : List (List ℕ)) (v from : ℕ) → 0 < length ps
    → is_value p ≡ true → v ≡ number_of p → from ≡ at + length p + 1
    → with_first v (front_in ns from ps) ≡ front_in (n ∷ ns) at (p ∷ ps)
front_value n ns at p [] v from h t e f = absurd (omega arith)
front_value n ns at p (q ∷ ps) v from h t e f = rw (t, e, f) refl

front_no_value : (n : ℕ) (ns : List ℕ) (at : ℕ) (p : List ℕ) (ps : List (List ℕ)) → is_value p ≡ false
    → front_in (n ∷ ns) at (p ∷ ps) ≡ record { ok = false; numbers = n ∷ ns; end = at }
front_no_value n ns at p [] v = refl
front_no_value n ns at p (q ∷ ps) v = rw v refl

-- the first k places have their numbers, and the rest of the line begins at an index
pub record Filled (s ns₀ ns : List ℕ) (at k : ℕ) : Type 0 where
  pub few : k ≤ length ns
  pub same : length ns ≡ length ns₀
  pub inside : at ≤ length s
  pub whole : ahead (take k ns) (front_in (drop k ns) at (parts comma (drop at s))) ≡ front_in ns₀ 0 (parts comma s)

pub front_start : (s ns : List ℕ) → Filled s ns ns 0 0
front_start s ns = record { few = omega arith; same = refl; inside = omega arith; whole = refl }

-- the next part
module _ (s : List ℕ) (at : ℕ) {r : Taken} (taken : TakenFrom (drop at s) r) where
  taken_value : r.end < length (drop at s) → r.value ≡ value_of (first_part comma (drop at s))
  taken_value more = rw (lt-ltb _ _ more) at taken.value

  taken_parts : r.end < length (drop at s)
      → parts comma (drop at s) ≡ first_part comma (drop at s) ∷ parts comma (drop (at + (r.end + 1)) s)
  taken_parts more =
      let next : at + (r.end + 1) ≡ at + r.end + 1 = omega arith in
      rw (next, taken.end) (parts_more comma s at _ refl (omega (arith, taken.end, length-drop at s)))

  pub taken_inside : (n : ℕ) → r.value ≡ Some n → r.end < length (drop at s)
  taken_inside n h = by (ltb r.end (length (drop at s))) refl (sym taken.value ∙ h)
    where
      by : (t : Bool) → ltb r.end (length (drop at s)) ≡ t
          → cond t (value_of (first_part comma (drop at s))) None ≡ Some n
          → r.end < length (drop at s)
      by true e h = ltb-true _ _ e
      by false e h = cc

  module _ {ns₀ ns : List ℕ} {k : ℕ} (to : Filled s ns₀ ns at k) (l : k < length ns) where
    pub front_on : (n : ℕ) → r.value ≡ Some n → Filled s ns₀ (set ns k n) (at + (r.end + 1)) (k + 1)
    front_on n h =
        let more = taken_inside n h in
        let p = first_part comma (drop at s) in
        let from = at + (r.end + 1) in
        let rest = parts comma (drop from s) in
        let value = value_some p n (sym (taken_value more) ∙ h) in
        let turn =
        front_value (get_or ns k 0) (drop (suc k) ns) at p rest n from (parts_some comma (drop from s)) value.0
        (sym value.1) (omega (arith, taken.end)) in
        record {
          few = rw length-set (omega arith);
          same = rw length-set to.same;
          inside = omega (arith, length-drop at s);
          whole = rw (add-one k, take-suc-set ns k n l, drop-set-lt (suc k) ns k n (omega arith)) (
              ahead_first (take k ns) n (front_in (drop (suc k) ns) from rest)
              ∙ ap (ahead (take k ns)) turn
              ∙ (rw (taken_parts more, drop-cons ns k 0 l) at to.whole));
        }

    pub front_stop : r.value ≡ None → record { ok = false; numbers = ns; end = at } ≡ front_in ns₀ 0 (parts comma s)
    front_stop h =
        let rest = parts comma (drop (at + (r.end + 1)) s) in
        let none : front_in (drop k ns) at (parts comma (drop at s))
        ≡ record { ok = false; numbers = drop k ns; end = at } =
        rw (drop-cons ns k 0 l) (elim (dec_lt r.end (length (drop at s))) [
          | yes more ↦
              rw (taken_parts more) (front_no_value _ _ at _ rest (value_none _ (sym (taken_value more) ∙ h)))
          | no last ↦ rw (parts_last comma s at _ refl (omega (arith, taken.end, length-drop at s))) refl
        ]) in
        rw (none, take-append-drop) at to.whole

-- no place is left
pub front_end : {s ns₀ ns : List ℕ} {at k : ℕ} → Filled s ns₀ ns at k → length ns ≤ k
    → record { ok = true; numbers = ns; end = at } ≡ front_in ns₀ 0 (parts comma s)
front_end {ns = ns} {k = k} to h = rw (drop_of_length-le ns h, append-nil, take_all k ns h) at to.whole
