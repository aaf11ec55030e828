-- A number of one digit is this digit, and one of two digits these two.
use Rattle.text.proofs.Laws.Decimal.{decimal_digit}
use Rattle.numerals.proofs.Pairs.{decimal_pair}
use Rattle.numerals.proofs.TextWriter.put_short.Goals as goal

pub put_byte-requires : goal.put_byte-requires
put_byte-requires c = rw (decimal_digit c.args.n c.if-n-lt10.true) at c.requires.room

pub put_pair-requires-clause-room : goal.put_pair-requires-clause-room
put_pair-requires-clause-room c = rw (decimal_pair c.args.n c.if-n-lt10.false c.requires.n_bound) at c.requires.room

pub returns-then-n-lt10 : goal.returns-then-n-lt10
returns-then-n-lt10 c = rw (decimal_digit c.args.n c.if-n-lt10.true) c.put_byte.ensures

pub returns-else-n-lt10 : goal.returns-else-n-lt10
returns-else-n-lt10 c = rw (decimal_pair c.args.n c.if-n-lt10.false c.requires.n_bound) c.put_pair.ensures
