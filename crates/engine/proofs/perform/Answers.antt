-- One arm for each row of the table of ops but those of ticks, runs and the like; an accepted op with no arm of its own
-- is ShowWords. None but Command moves a FIFO.
use mathlib.Core.Path.{refl}
use native.Mathlib.Omega.{arith}
use borrow.Author.Tests.{eqb-false}
use Prim.Native.Nat.{◌≤◌}
use Rattle.model.specs.OtherOps.{interrupts_read}
use Rattle.op.specs.Numbers.{op_number}
use Rattle.op.proofs.Numbered.{named, named_last}
use Rattle.engine.proofs.Steps.{row_gives, stays_gives, latched_low}
use Rattle.engine.proofs.perform.Goals as goal

pub command-requires : goal.command-requires
command-requires c = record { passed = c.requires.passed; op = named c.requires.named c.in-Command.is }

pub read_interrupts-requires : goal.read_interrupts-requires
read_interrupts-requires c = latched_low _ _ c.requires.passed

pub returns-in-LoadWords : goal.returns-in-LoadWords
returns-in-LoadWords c =
    rw c.load_words.ensures (stays_gives _ _ 1 (named c.requires.named c.in-LoadWords.is) refl refl refl refl)

pub returns-in-Command : goal.returns-in-Command
returns-in-Command c = row_gives _ _ 2 (named c.requires.named c.in-Command.is) c.command.ensures

pub returns-in-Arm : goal.returns-in-Arm
returns-in-Arm c = rw c.arm.ensures (stays_gives _ _ 3 (named c.requires.named c.in-Arm.is) refl refl refl refl)

pub returns-in-Stop : goal.returns-in-Stop
returns-in-Stop c = rw c.stop.ensures (stays_gives _ _ 4 (named c.requires.named c.in-Stop.is) refl refl refl refl)

pub returns-in-ReadInterrupts : goal.returns-in-ReadInterrupts
unfolding interrupts_read
returns-in-ReadInterrupts c =
    let op = named c.requires.named c.in-ReadInterrupts.is in
    rw c.read_interrupts.ensures (stays_gives _ _ 5 op refl refl refl refl)

pub returns-in-SetMask : goal.returns-in-SetMask
returns-in-SetMask c =
    rw c.set_mask.ensures (stays_gives _ _ 6 (named c.requires.named c.in-SetMask.is) refl refl refl refl)

pub returns-in-ReadStatus : goal.returns-in-ReadStatus
returns-in-ReadStatus c =
    rw c.read_status.ensures (stays_gives _ _ 7 (named c.requires.named c.in-ReadStatus.is) refl refl refl refl)

pub returns-in_default : goal.returns-in_default
returns-in_default c =
    let n = c.in_default in
    let some = eqb-false c.args.c.op 0 c.requires.no_tick in
    let is = c.requires.named in
    let few = c.requires.few in
    let first : 1 ≤ op_number c.args.op = omega arith in
    let last : op_number c.args.op ≤ 8 = omega arith in
    let shown =
    named_last _ n.not-LoadWords n.not-Command n.not-Arm n.not-Stop n.not-ReadInterrupts n.not-SetMask
    n.not-ReadStatus first last
    in
    rw c.show_words.ensures (stays_gives _ _ 8 (named is shown) refl refl refl refl)
