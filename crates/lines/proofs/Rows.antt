-- A row of numbers below 2^64 has no line end but its own, so it is the first part of a text that begins with it, and
-- it reads as the command of these numbers.
use Prim.Native.Nat.{ℕ, ◌^◌, ◌<◌}
use mathlib.Core.Path.{◌≡◌, sym, ap, ◌∙◌}
use mathlib.Core.Bool.{true}
use mathlib.Core.List.{List, [], ◌∷◌, map}
use native.Mathlib.Omega.{arith}
use lib.Dec.{ltb}
use lib.ListN.{length, drop, length-append}
use lib.Seq.{append_snoc}
use borrow.Author.Tests.{lt-ltb}
use Rattle.std.specs.Prelude.{Some}
use Rattle.model.specs.declared.Command.{Command}
use Rattle.model.specs.Tests.{every}
use Rattle.text.specs.Text.{line_end, first_part, numbers, row, starts_with}
use Rattle.text.specs.Sheet.{fields_of}
use Rattle.text.proofs.Laws.Splits.{first_part_lem, starts_in}
use Rattle.text.proofs.Laws.Lines.{line_ok, line_lacks_end, line_of_command}
use Rattle.lines.specs.Reading.{ReadFrom}
use Rattle.text.proofs.Laws.Starts.{starts_length}
use Rattle.lines.proofs.LineParts.{part_end}

-- a command's row stands at the front
module _ (s : List ℕ) (c : Command) (fit : every (map (λ n. ltb n (2 ^ 64)) (fields_of c)) ≡ true)
    (starts : starts_with (row (fields_of c)) s ≡ true) where
  abbrev line : List ℕ
  line = numbers (fields_of c)

  row_first : first_part line_end s ≡ line
  row_first =
      let rest = drop (length (row (fields_of c))) s in
      rw (
        starts_in (row (fields_of c)) s starts,
        append_snoc line line_end rest,
        first_part_lem line_end line rest (line_lacks_end c fit),
      )

  row_within : length line < length s
  row_within = omega (arith, starts_length (row (fields_of c)) s starts, length-append line (line_end ∷ []))

  pub row_read : ReadFrom s (record { line = Some c; end = length line })
  row_read = record {
    line = rw (row_first, lt-ltb (length line) (length s) row_within) (sym (line_of_command c fit));
    end = sym (part_end s (rw row_first (line_ok c fit)) ∙ ap length row_first);
  }
