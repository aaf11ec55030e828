-- Each turn writes a comma and a number of what is left of the row, and behind the last number its line end is left.
use Rattle.text.specs.Text.{row}
use Rattle.numerals.proofs.Puts.{Rest}
use Rattle.writing.proofs.Rows.{row_from}
use Rattle.writing.proofs.put_numbers.Given as goal

abbrev pub invariant-loop-n : goal.invariant-loop-n
invariant-loop-n l = Rest l.fn.writer l.writer (row l.fn.numbers) (row_from l.n-index l.others)
