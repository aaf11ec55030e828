-- The library's test whether a text begins with another is the definition. A sheet that neither its size nor its first
-- line refuses is short, and begins with that line.
use Prim.Native.Nat.{ℕ, ◌-◌, ◌≤◌}
use mathlib.Core.Path.{◌≡◌, refl}
use mathlib.Core.Bool.{Bool, true, false, cond}
use mathlib.Core.List.{List, [], ◌∷◌}
use native.Mathlib.Omega.{arith}
use lib.Dec.{ltb}
use lib.ListN.{length, take, drop}
use borrow.Author.Tests.{ltb-false}
use Rattle.std.specs.Prelude.{nat_eq, Err}
use Rattle.std.specs.List as Std
use Rattle.std.proofs.lemmas.Bool.Decides.{nat_tests}
use Rattle.text.specs.declared.SheetRefusal.TheVariants.{TooLong, FirstLine}
use Rattle.text.specs.Text.{line_end, parts, starts_with}
use Rattle.text.specs.Forms.{sheet_accepted, head_verdict, verdict_then, verdict_of}
use Rattle.text.specs.Sheet.{first_line, command_sheet, body_verdict, sheet_verdict}
use Rattle.text.proofs.Laws.FirstPart.{rest_is}
use Rattle.text.proofs.Laws.Starts.{starts_length}

eq_turned : (b c : ℕ) → nat_eq b c ≡ nat_eq c b
eq_turned b c = grind (arith, nat_tests)

pub same_start : (h s : List ℕ) → Std.starts_with nat_eq s h ≡ starts_with h s
same_start [] s = refl
same_start (b ∷ h) [] = refl
same_start (b ∷ h) (c ∷ s) = rw (eq_turned b c, same_start h s) refl

pub head_starts : (first s : List ℕ) → head_verdict first s ≡ sheet_accepted
    → (length s ≤ 65536) × (starts_with first s ≡ true)
unfolding head_verdict
head_starts first s h = by (ltb 65536 (length s)) (starts_with first s) refl refl h
  where
    by : (over starts : Bool) → ltb 65536 (length s) ≡ over → starts_with first s ≡ starts
        → cond over (Err TooLong) (cond starts sheet_accepted (Err FirstLine)) ≡ sheet_accepted
        → (length s ≤ 65536) × (starts_with first s ≡ true)
    by true starts p q h = cc
    by false false p q h = cc
    by false true p q h = (ltb-false _ _ p, q)

-- so there is room for that line
pub head_passed : (first s : List ℕ) → head_verdict first s ≡ sheet_accepted
    → (length first ≤ length s) × (length s ≤ 65536)
head_passed first s h =
    let passed = head_starts first s h in
    (starts_length first s passed.1, passed.0)

-- the command sheet is judged by its head, and then by its lines
pub by_head : (s : List ℕ)
    → sheet_verdict s
    ≡ verdict_then (head_verdict first_line s) (body_verdict 2 (parts line_end (take (length s - 19) (drop 19 s))))
unfolding verdict_of command_sheet
by_head s = rw (rest_is s 19) refl
