-- One digit or two before a comma are the value there; otherwise the run up to the comma is read as a value, and where
-- no comma follows there is none.
use mathlib.Core.Path.{refl}
use native.Mathlib.Omega.{arith}
use Rattle.values.proofs.TakenParts.{taken_digit, taken_two, taken_run}
use Rattle.values.proofs.take_value.Goals as goal

pub returns-in-48-to-57 : goal.returns-in-48-to-57
returns-in-48-to-57 c = taken_digit c.args.s.now _ (omega arith) (omega arith) (omega arith) (omega arith)

pub returns-in-49-to-57 : goal.returns-in-49-to-57
returns-in-49-to-57 c =
    taken_two c.args.s.now _ (omega arith) (omega arith) (omega arith) (omega arith) (omega arith) (omega arith)

pub returns : goal.returns
returns c = taken_run c.run_length-end.ensures (omega arith) (rw c.read_value.ensures refl)
