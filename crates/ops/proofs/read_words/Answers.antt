-- The oldest timestamp's EDGE is 0 or 1, so that bit 15 has room for it.
use borrow.Author.Tests.{ne_eqb}
use Rattle.model.proofs.Laws.FifoPlaces.{oldest_rising}
use Rattle.ops.proofs.read_words.Goals as goal

pub time_words-requires-2 : goal.time_words-requires-2
time_words-requires-2 c =
    let k = c.requires in
    rw c.oldest_at-t.ensures (oldest_rising _ (k.filled (ne_eqb _ _ c.if-selector-eq0.false)) k.ok)
