-- The line of a tick without inputs is the row of nine zeros, and reads as they do.
use Prim.Native.Nat.{ℕ, ◌+◌, ◌≤◌}
use mathlib.Core.Path.{◌≡◌, refl, sym}
use mathlib.Core.Bool.{true}
use mathlib.Core.List.{List, []}
use native.Mathlib.Omega.{arith}
use lib.ListN.{length, drop, length-drop}
use Rattle.std.specs.Prelude.{Some}
use Rattle.text.specs.Text.{decimal, starts_with}
use Rattle.text.specs.Sheet.{command_of}
use Rattle.tick_lines.specs.AtOnce.{tick_line}
use Rattle.lines.specs.Reading.{ReadFrom}
use Rattle.text.proofs.Laws.Starts.{starts_length}
use Rattle.lines.proofs.Rows.{row_read}

-- a tick stands at the front
pub tick_read : (s : List ℕ) → true ≡ starts_with tick_line s
    → ReadFrom s (record { line = Some (command_of []); end = 17 })
unfolding decimal
tick_read s starts = row_read s (command_of []) refl (sym starts)

-- where one stands at an index, the text has its 18 bytes
pub tick_fits : (s : List ℕ) (at : ℕ) → starts_with tick_line (drop at s) ≡ true → at + 18 ≤ length s
tick_fits s at starts = omega (arith, starts_length tick_line (drop at s) starts, length-drop at s)
