-- A part with another behind it is a line, which is tested and leaves the verdict to the others. The last part has
-- to be empty, so it is refused while bytes are left.
use mathlib.Core.Path.{◌≡◌, refl, sym, ap, ◌∙◌}
use mathlib.Core.Bool.{Bool, true, false, cond}
use mathlib.Core.List.{List, ◌∷◌}
use Prim.Native.Nat.{ℕ, ◌+◌, ◌-◌, ◌≤◌, ◌<◌}
use native.Mathlib.Numerals.{add-one}
use native.Mathlib.Decide.{dec_lt}
use native.Mathlib.Omega.{arith}
use lib.Dec.{ltb}
use lib.ListN.{length, take, drop, length-drop}
use borrow.Author.Tests.{ltb-true, lt-ltb, ne_eqb}
use Rattle.std.specs.Prelude.{Option, Some, None, Err, option_map}
use Rattle.model.specs.declared.Command.{Command}
use Rattle.text.specs.declared.SheetRefusal.TheVariants.{ValueLine}
use Rattle.text.specs.Text.{line_end, parts, first_part}
use Rattle.text.specs.Sheet.{command_sheet, is_line, line_of, body_verdict}
use Rattle.lines.specs.declared.Next.{Next}
use Rattle.lines.specs.Reading.{ReadFrom, EndOf}
use Rattle.text.proofs.Laws.Splits.{parts_some}
use Rattle.text.proofs.Laws.FirstPart.{one_part, more_parts, rest_is}
use Rattle.text.proofs.Laws.FormSheets.{verdict_first}
use Rattle.lines.proofs.LineParts.{line_some, line_none, part_end}

module _ (s : List ℕ) where
  abbrev here : List ℕ
  here = first_part line_end s

  -- the line at the front, where it has a line end
  pub first_told : (k : ℕ) → length here < length s
      → body_verdict k (parts line_end s)
      ≡ cond (is_line here) (body_verdict (k + 1) (parts line_end (drop (length here + 1) s))) (Err (ValueLine k))
  first_told k more =
      let rest = drop (length here + 1) s in
      let cut : parts line_end s ≡ here ∷ parts line_end rest = rw add-one (more_parts line_end s more) in
      ap (body_verdict k) cut ∙ verdict_first command_sheet k here (parts line_end rest) (parts_some line_end rest)

  -- as it is read
  module _ {r : Next} (read : ReadFrom s r) where
    pub read_whole : (c : Command) → r.line ≡ Some c → (length here < length s) × (is_line here ≡ true)
    read_whole c h = by (ltb (length here) (length s)) refl (sym read.line ∙ h)
      where
        by : (t : Bool) → ltb (length here) (length s) ≡ t → cond t (line_of here) None ≡ Some c
            → (length here < length s) × (is_line here ≡ true)
        by true e h = (ltb-true _ _ e, line_some here h)
        by false e h = cc

    read_none : r.line ≡ None → length here < length s → is_line here ≡ false
    read_none h more = line_none here (sym (rw (lt-ltb _ _ more) at read.line) ∙ h)

  end_some : (end : ℕ) → EndOf s (Some end) → (end ≡ length here) × (length here < length s) × (is_line here ≡ true)
  end_some end to = by to.next.line refl to.is
    where
      by : (l : Option Command) → to.next.line ≡ l → Some end ≡ option_map (λ c. to.next.end) l
          → (end ≡ length here) × (length here < length s) × (is_line here ≡ true)
      by (Some c) h is =
          let whole = read_whole to.read c h in
          let same : end ≡ to.next.end = cc in
          (same ∙ to.read.end ∙ part_end s whole.1, whole.0, whole.1)
      by None h is = cc

  end_none : EndOf s None → length here < length s → is_line here ≡ false
  end_none to = by to.next.line refl to.is
    where
      by : (l : Option Command) → to.next.line ≡ l → None ≡ option_map (λ c. to.next.end) l
          → length here < length s
          → is_line here ≡ false
      by (Some c) h is more = cc
      by None h is more = read_none to.read h more

  pub line_refused : (k : ℕ) → 0 < length s → EndOf s None → body_verdict k (parts line_end s) ≡ Err (ValueLine k)
  line_refused k some to =
      elim (dec_lt (length here) (length s)) [
        | yes more ↦ first_told k more ∙ rw (end_none to more) refl
        | no last ↦
            ap (body_verdict k) (one_part line_end s (omega arith))
            ∙ rw (ne_eqb (length s) 0 (λ e. omega arith)) refl
      ]

-- lines have passed, and leave the verdict on all to those that are left
pub record Left (s rest : List ℕ) (line : ℕ) : Type 0 where
  pub few : line + length rest ≤ length s + 2
  pub verdict : body_verdict line (parts line_end rest) ≡ body_verdict 2 (parts line_end s)

pub line_on : (s rest : List ℕ) (line end : ℕ) → Left s rest line → EndOf rest (Some end)
    → Left s (take (length rest - (end + 1)) (drop (end + 1) rest)) (line + 1)
line_on s rest line end left to =
    let told = end_some rest end to in
    rw (rest_is rest (end + 1)) (record {
      few = omega (arith, left.few, length-drop (end + 1) rest);
      verdict = rw told.0 (sym (first_told rest line told.1 ∙ rw told.2 refl) ∙ left.verdict);
    })

-- a line that is passed ends before the end of the text
pub end_inside : (s : List ℕ) (end : ℕ) → EndOf s (Some end) → end < length s
end_inside s end to = let told = end_some s end to in omega arith
