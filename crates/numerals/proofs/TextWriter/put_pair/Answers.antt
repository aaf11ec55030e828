-- The two digits, one behind the other.
use borrow.Author.Rules.{rules}
use Rattle.numerals.proofs.Puts.{appends_then}
use Rattle.numerals.proofs.TextWriter.put_pair.Goals as goal

pub returns : goal.returns
returns c = appends_then c.put_byte.ensures c.put_byte-2.ensures (search rules)
