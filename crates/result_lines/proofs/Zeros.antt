-- Each number behind the line number has a comma before it, and 0 is one digit. So where all of them are 0, the same
-- text stands behind every line number.
use Prim.Native.Nat.{ℕ}
use mathlib.Core.Path.{◌≡◌}
use mathlib.Core.List.{◌++◌, append_assoc}
use native.Mathlib.Omega.{arith}
use Rattle.model.specs.declared.Words.{Words}
use Rattle.model.specs.Words.{no_words}
use Rattle.text.specs.Text.{bytes, decimal}
use Rattle.text.specs.Results.{result_line}
use Rattle.text.proofs.Laws.Decimal.{decimal_digit}

pub result_of_zeros : (line : ℕ) {answer : ℕ} {v : Words} → answer ≡ 0 → v ≡ no_words
    → result_line line answer v ≡ decimal line ++ bytes ",0,0,0,0,0,0\n"
result_of_zeros line none no_values = rw (none, no_values) (simp (decimal_digit 0 (omega arith), append_assoc))
