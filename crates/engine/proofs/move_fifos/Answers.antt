-- A tick stores timestamps; any other command that moves a FIFO is a read, which has found it filled.
use borrow.Author.Tests.{eq-eqb, ne_eqb}
use Rattle.model.proofs.Laws.Accepting.{accepted_facts}
use Rattle.model.proofs.Laws.Valid.{fifo_filled}
use Rattle.change.proofs.Given.{moves_passed, moves_reads}
use Rattle.engine.proofs.move_fifos.Goals as goal

pub store_timestamps-requires : goal.store_timestamps-requires
store_timestamps-requires c = record { passed = moves_passed _ _ c.requires; op = c.if-c-eq0.true }

pub take_timestamp-requires : goal.take_timestamp-requires
take_timestamp-requires c =
    let moves = c.requires in
    fifo_filled _ _ (accepted_facts _ _ (moves_passed _ _ moves)) (moves_reads _ _ moves (ne_eqb _ _ c.if-c-eq0.false))

pub returns-then-c-eq0 : goal.returns-then-c-eq0
returns-then-c-eq0 c = simp (c.store_timestamps.ensures, eq-eqb _ _ c.if-c-eq0.true)

pub returns-else-c-eq0 : goal.returns-else-c-eq0
returns-else-c-eq0 c = simp (c.take_timestamp.ensures, ne_eqb _ _ c.if-c-eq0.false)
