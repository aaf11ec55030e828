-- A value at the front takes the first place of a line's form, so the line reads as the numbers of the front and what
-- is read behind it, whatever the form has there; without a front it is no line of a form that goes on.
use Prim.Native.Nat.{ℕ, zero, suc, ◌+◌, ◌≤◌, ◌<◌}
use mathlib.Core.Path.{◌≡◌, refl, sym, ap, ◌∙◌}
use mathlib.Core.Bool.{Bool, true, false, ◌&&◌, cond, and-false, false≢true}
use mathlib.Core.List.{List, [], ◌∷◌, ◌++◌}
use native.Mathlib.Decide.{dec_lt}
use native.Mathlib.Omega.{arith}
use lib.ListN.{length, drop}
use Rattle.text.specs.Text.{comma, number_of, is_value, parts, first_part}
use Rattle.text.specs.Forms.{ValueForm, reads_each, numbers_of}
use Rattle.text.proofs.Laws.Splits.{parts_some}
use Rattle.text.proofs.Laws.Lines.{eithers}
use Rattle.values.specs.Fronts.{Found, with_first, front_in}
use Rattle.text.proofs.Laws.FirstPart.{parts_last, parts_more}

module _ (v : ValueForm) (vs : List ValueForm) where
  more_places : (k : ℕ) → reads_each (eithers k ++ (v ∷ vs)) [] ≡ false
  more_places zero = refl
  more_places (suc k) = refl

  no_first : (t x : Bool) (n : ℕ) (f g : Found) → (cond t (with_first n f) g).ok ≡ false → (f.ok ≡ false → x ≡ false)
      → t && x ≡ false
  no_first true x n f g h s = s h
  no_first false x n f g h s = refl

  pub no_front : (ns : List ℕ) (at : ℕ) (ps : List (List ℕ)) → (front_in ns at ps).ok ≡ false
      → reads_each (eithers (length ns) ++ (v ∷ vs)) ps ≡ false
  no_front [] at ps h = absurd (false≢true (sym h))
  no_front (n ∷ ns) at [] h = refl
  no_front (n ∷ ns) at (p ∷ []) h = rw (more_places (length ns)) (and-false (is_value p))
  no_front (n ∷ ns) at (p ∷ q ∷ ps) h =
      no_first (is_value p) _ _ (front_in ns (at + length p + 1) (q ∷ ps)) _ h (no_front ns _ (q ∷ ps))

-- a front of these places that begins at an index, and what has to be read behind it
pub record Behind (vs : List ValueForm) (s ns : List ℕ) (at : ℕ) (f : Found) : Type 0 where
  pub inside : f.end ≤ length s
  pub full : length f.numbers ≡ length ns
  pub reads :
      reads_each (eithers (length ns) ++ vs) (parts comma (drop at s)) ≡ reads_each vs (parts comma (drop f.end s))
  pub numbers :
      numbers_of (eithers (length ns) ++ vs) (parts comma (drop at s))
      ≡ f.numbers ++ numbers_of vs (parts comma (drop f.end s))

-- a first part that is a value, with parts behind it
first_value : (t : Bool) (n : ℕ) (f g : Found) → g.ok ≡ false → (cond t (with_first n f) g).ok ≡ true → t ≡ true
first_value true n f g none h = refl
first_value false n f g none h = absurd (false≢true (sym none ∙ h))

front_first : (n : ℕ) (ns : List ℕ) (at : ℕ) (p : List ℕ) (ps : List (List ℕ)) → 0 < length ps
    → (front_in (n ∷ ns) at (p ∷ ps)).ok ≡ true
    → (is_value p ≡ true)
    × (front_in (n ∷ ns) at (p ∷ ps) ≡ with_first (number_of p) (front_in ns (at + length p + 1) ps))
front_first n ns at p [] some h = absurd (omega arith)
front_first n ns at p (q ∷ ps) some h =
    let t = first_value (is_value p) _ (front_in ns (at + length p + 1) (q ∷ ps)) _ refl h in
    (t, rw t refl)

module _ (vs : List ValueForm) (s : List ℕ) where
  abbrev front_at : List ℕ → ℕ → Found
  front_at ns at = front_in ns at (parts comma (drop at s))

  pub behind_front : (ns : List ℕ) (at : ℕ) → at ≤ length s → (front_at ns at).ok ≡ true
      → Behind vs s ns at (front_at ns at)
  behind_front [] at h ok = record { inside = h; full = refl; reads = refl; numbers = refl }
  behind_front (n ∷ ns) at h ok =
      let p = first_part comma (drop at s) in
      let from = at + length p + 1 in
      elim (dec_lt (at + length p) (length s)) [
        | yes more ↦
            let here = parts_more comma s at (length p) refl more in
            let rest = parts comma (drop from s) in
            let first = front_first n ns at p rest (parts_some comma (drop from s)) (rw here at ok) in
            let on = behind_front ns from (omega arith) (rw (here, first.1) at ok) in
            record {
              inside = rw (here, first.1) on.inside;
              full = rw (here, first.1) (ap suc on.full);
              reads = rw (here, first.1, first.0) on.reads;
              numbers = rw (here, first.1) (ap (λ (xs : List ℕ). number_of p ∷ xs) on.numbers);
            }
        | no last ↦ absurd (false≢true (rw (parts_last comma s at (length p) refl (omega arith)) at ok))
      ]
