-- Each turn writes a comma and a number of what is left of the row, and behind the last number its line end is left.
use mathlib.Core.Path.{refl}
use Rattle.numerals.proofs.Puts.{rest_whole, rest_less}
use Rattle.writing.proofs.Rows.{row_first, row_next, row_end, row_none}
use Rattle.writing.proofs.put_numbers.Goals as goal
use Rattle.writing.proofs.put_numbers.Goals.{in-Some+else-loop-n-test, in_default}

pub loop-n-init : goal.loop-n-init
loop-n-init c = rest_less (rest_whole c.requires) (row_first c.in-Some.ensures.cases.0) c.put_number.ensures

pub loop-n-preserved : goal.loop-n-preserved
loop-n-preserved c =
    rest_less (rest_less c.loop-n.invariant (row_next _ _ c.loop-n-test.true) c.put_byte.ensures) refl
    c.put_number-in-loop-n.ensures

pub returns : goal.returns
returns c = elim c.match-split_first.branch [
  | in-Some+else-loop-n-test w ↦
      w.loop-n.invariant.whole (rw (← w.writer-is, ← row_end _ _ w.loop-n-test.false) c.put_byte-2.ensures)
  | in_default w ↦ rw (← w.writer-is, ← row_none _ w.in_default.ensures.cases) c.put_byte-2.ensures
]
