-- A text is its parts, with a separator between them, and parts that lack the separator are the parts of such a text. A
-- text that starts with another is that one and the rest.
use Prim.Native.Nat.{ℕ, ◌≤◌, ◌<◌}
use mathlib.Core.Path.{◌≡◌, refl, ap, ◌∙◌}
use mathlib.Core.Bool.{Bool, true, false, false≢true}
use mathlib.Core.List.{List, [], ◌∷◌, ◌++◌, tail, append-nil}
use native.Mathlib.Omega.{arith}
use lib.Dec.{eqb, ltb}
use lib.ListN.{length, drop}
use borrow.Author.Tests.{eq-eqb, ne_eqb, eqb-true, ltb-true}
use Rattle.text.specs.Text.{comma, line_end, digit_of, all_digits, starts_with, Lacks, into_parts, parts}
use Rattle.text.specs.Forms.{with_commas}
use Rattle.model.proofs.Laws.Testing.{both, both_true}
use Rattle.text.proofs.Laws.Digits.{digit_byte}

-- parts, each with the separator before it
abbrev pub joined : ℕ → List (List ℕ) → List ℕ
joined sep [] = []
joined sep (p ∷ ps) = sep ∷ (p ++ joined sep ps)

joined_into : (t : Bool) (sep b : ℕ) (bs : List ℕ) (ps : List (List ℕ)) → eqb b sep ≡ t
    → joined sep ps ≡ sep ∷ bs
    → joined sep (into_parts t b ps) ≡ sep ∷ b ∷ bs
joined_into true sep b bs ps e h = cc (eqb-true b sep e)
joined_into false sep b bs [] e h = cc
joined_into false sep b bs (p ∷ ps) e h = cc

pub joined_parts : (sep : ℕ) (bs : List ℕ) → joined sep (parts sep bs) ≡ sep ∷ bs
joined_parts sep [] = refl
joined_parts sep (b ∷ bs) = joined_into (eqb b sep) sep b bs (parts sep bs) refl (joined_parts sep bs)

pub lacks_both : (sep : ℕ) (bs cs : List ℕ) → Lacks sep bs → Lacks sep cs → Lacks sep (bs ++ cs)
lacks_both sep [] cs g h = h
lacks_both sep (b ∷ bs) cs g h = (g.0, lacks_both sep bs cs g.1 h)

-- digits are bytes from 48 on
pub digits_lack : (base sep : ℕ) (bs : List ℕ) → base ≤ 16 → sep < 48 → all_digits base bs ≡ true → Lacks sep bs
digits_lack base sep [] few l h = tt
digits_lack base sep (b ∷ bs) few l h =
    let tests = both (ltb (digit_of b) base) (all_digits base bs) h in
    let digit = digit_byte b (omega (arith, ltb-true (digit_of b) base tests.0)) in
    ((λ e. omega (arith, digit.least)), digits_lack base sep bs few l tests.1)

pub one_part : (sep : ℕ) (p : List ℕ) → Lacks sep p → parts sep p ≡ p ∷ []
one_part sep [] h = refl
one_part sep (b ∷ p) h = rw (ne_eqb b sep h.0, one_part sep p h.1)

pub first_part_lem : (sep : ℕ) (p r : List ℕ) → Lacks sep p → parts sep (p ++ (sep ∷ r)) ≡ p ∷ parts sep r
first_part_lem sep [] r h = rw (eq-eqb sep sep refl)
first_part_lem sep (b ∷ p) r h = rw (ne_eqb b sep h.0, first_part_lem sep p r h.1)

-- every text has a part
into_some : (t : Bool) (b : ℕ) (ps : List (List ℕ)) → 0 < length (into_parts t b ps)
into_some true b ps = omega arith
into_some false b [] = omega arith
into_some false b (p ∷ ps) = omega arith

pub parts_some : (sep : ℕ) (bs : List ℕ) → 0 < length (parts sep bs)
parts_some sep [] = omega arith
parts_some sep (b ∷ bs) = into_some (eqb b sep) b (parts sep bs)

-- texts with commas between them, put together and taken apart
commas_joined : (ts : List (List ℕ)) → 0 < length ts → comma ∷ with_commas ts ≡ joined comma ts
commas_joined [] some = absurd (omega arith)
commas_joined (t ∷ []) some = rw append-nil refl
commas_joined (t ∷ u ∷ ts) some = ap (λ (x : List ℕ). comma ∷ (t ++ x)) (commas_joined (u ∷ ts) (omega arith))

pub commas_of_parts : (l : List ℕ) → with_commas (parts comma l) ≡ l
commas_of_parts l = ap tail (commas_joined (parts comma l) (parts_some comma l) ∙ joined_parts comma l)

abbrev pub LackAll : ℕ → List (List ℕ) → Type 0
LackAll sep [] = Unit {0}
LackAll sep (t ∷ ts) = Lacks sep t × LackAll sep ts

pub parts_of_commas : (ts : List (List ℕ)) → 0 < length ts → LackAll comma ts → parts comma (with_commas ts) ≡ ts
parts_of_commas [] some h = absurd (omega arith)
parts_of_commas (t ∷ []) some h = one_part comma t h.0
parts_of_commas (t ∷ u ∷ ts) some h =
    rw (first_part_lem comma t (with_commas (u ∷ ts)) h.0, parts_of_commas (u ∷ ts) (omega arith) h.1) refl

pub commas_lack : (ts : List (List ℕ)) → LackAll line_end ts → Lacks line_end (with_commas ts)
commas_lack [] h = tt
commas_lack (t ∷ []) h = h.0
commas_lack (t ∷ u ∷ ts) h =
    lacks_both line_end t (comma ∷ with_commas (u ∷ ts)) h.0 ((λ e. omega arith), commas_lack (u ∷ ts) h.1)

-- a text starts with its head
pub starts_in : (h s : List ℕ) → starts_with h s ≡ true → s ≡ h ++ drop (length h) s
starts_in [] s e = refl
starts_in (b ∷ h) [] e = absurd (false≢true e)
starts_in (b ∷ h) (d ∷ s) e =
    let tests = both (eqb d b) (starts_with h s) e in
    let rest = starts_in h s tests.1 in
    cc (eqb-true d b tests.0)

pub starts_front : (h s : List ℕ) → starts_with h (h ++ s) ≡ true
starts_front [] s = refl
starts_front (b ∷ h) s = both_true (eqb b b) _ (eq-eqb b b refl) (starts_front h s)
