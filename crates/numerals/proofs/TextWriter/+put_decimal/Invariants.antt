-- A tenth is smaller, so the calls end.
use Rattle.numerals.proofs.TextWriter.+put_decimal.Given as goal

abbrev pub decreases-put_decimal : goal.decreases-put_decimal
decreases-put_decimal l = l.n
