-- Selector 8 reads nothing, and any other reads what the write leaves.
use borrow.Author.Tests.{eq-eqb, ne_eqb}
use Rattle.ops.proofs.Passed.{words_within, readable, written_gives, read_gives}
use Rattle.ops.proofs.command.Goals as goal

pub write-now-requires : goal.write-now-requires
write-now-requires c = words_within _ _ c.requires

pub returns-then-c-eq8 : goal.returns-then-c-eq8
returns-then-c-eq8 c =
    rw c.silent.ensures
    (written_gives _ _ c.requires _ c.write-now.ensures
    (eq-eqb _ _ c.if-c-eq8.true))

pub read_words-words-requires : goal.read_words-words-requires
read_words-words-requires c = readable _ _ c.requires (ne_eqb _ _ c.if-c-eq8.false)

pub returns : goal.returns
returns c =
    rw (
      c.change_to.ensures,
      c.with_words.ensures,
      c.read_words-words.ensures,
      c.write-now.ensures,
    ) (read_gives _ _ c.requires (ne_eqb _ _ c.if-c-eq8.false))
