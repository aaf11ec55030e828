-- Where answer and values are 0, the line number and the same zeros behind it are the row. Any other row is written
-- number by number.
use mathlib.Core.Path.{◌≡◌}
use borrow.Author.Rules.{rules}
use Rattle.model.specs.Words.{no_words}
use Rattle.numerals.proofs.Puts.{room_front, room_behind, appends_then}
use Rattle.result_lines.proofs.Zeros.{result_of_zeros}
use Rattle.result_lines.proofs.put_result.Goals as goal

pub put_bytes-requires : goal.put_bytes-requires
put_bytes-requires c =
    let none : c.args.v ≡ no_words = search rules in
    let is = result_of_zeros c.args.line c.if-answer-eq0.true none in
    room_behind _ c.put_number.ensures (rw is at c.requires)

pub returns-then-eq : goal.returns-then-eq
returns-then-eq c =
    let none : c.args.v ≡ no_words = search rules in
    let is = result_of_zeros c.args.line c.if-answer-eq0.true none in
    let room = room_front c.args.writer.now _ _ (rw is at c.requires) in
    rw is (appends_then c.put_number.ensures c.put_bytes.ensures room)
