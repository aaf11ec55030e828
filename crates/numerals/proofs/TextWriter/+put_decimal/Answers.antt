-- The digits of a number are those of its tenth and one more.
use borrow.Author.Rules.{rules}
use mathlib.Core.List.{[], ◌∷◌}
use Prim.Native.Nat.{◌+◌, ◌%◌}
use Rattle.text.proofs.Laws.Decimal.{decimal_digit, decimal_more}
use Rattle.numerals.proofs.Puts.{room_front, rest_whole, rest_less}
use Rattle.numerals.proofs.TextWriter.+put_decimal.Goals as goal

pub put_byte-requires : goal.put_byte-requires
put_byte-requires t c = rw (decimal_digit c.args.n c.if-n-lt10.true) at c.requires

pub returns-then-n-lt10 : goal.returns-then-n-lt10
returns-then-n-lt10 t c = rw (decimal_digit c.args.n c.if-n-lt10.true) c.put_byte.ensures

pub put_decimal-requires : goal.put_decimal-requires
put_decimal-requires t c =
    let parts = decimal_more c.args.n c.if-n-lt10.false (search rules) in
    (search rules, room_front c.args.self.now _ ((48 + c.args.n % 10) ∷ []) (rw parts at c.requires))

pub put_byte-requires-else-n-lt10 : goal.put_byte-requires-else-n-lt10
put_byte-requires-else-n-lt10 t c =
    let parts = decimal_more c.args.n c.if-n-lt10.false (search rules) in
    (rest_less (rest_whole c.requires) parts c.put_decimal.ensures).room

pub returns-else-n-lt10 : goal.returns-else-n-lt10
returns-else-n-lt10 t c =
    let parts = decimal_more c.args.n c.if-n-lt10.false (search rules) in
    (rest_less (rest_whole c.requires) parts c.put_decimal.ensures).whole c.put_byte-else-n-lt10.ensures
