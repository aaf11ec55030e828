-- An op stands in the row of the table of lists that its number says; what names none is past them.
use mathlib.Core.Path.{◌∙◌}
use native.Mathlib.Omega.{arith}
use Rattle.model.proofs.Laws.Listed.{fields_of, fields_past}
use Rattle.op.proofs.Numbered.{named}
use Rattle.fields.proofs.fields_ok.Goals as goal

pub returns-in-Ok-Tick : goal.returns-in-Ok-Tick
returns-in-Ok-Tick c = c.tick_fields.ensures ∙ fields_of _ 0 (named c.in-Ok-Tick.ensures c.in-Ok-Tick.field-0-is)

pub returns-in-Ok-LoadWords : goal.returns-in-Ok-LoadWords
returns-in-Ok-LoadWords c =
    c.load_fields.ensures ∙ fields_of _ 1 (named c.in-Ok-LoadWords.ensures c.in-Ok-LoadWords.field-0-is)

pub returns-in-Ok-Command : goal.returns-in-Ok-Command
returns-in-Ok-Command c =
    c.command_fields.ensures ∙ fields_of _ 2 (named c.in-Ok-Command.ensures c.in-Ok-Command.field-0-is)

pub returns-in-Ok-Arm : goal.returns-in-Ok-Arm
returns-in-Ok-Arm c = c.arm_fields.ensures ∙ fields_of _ 3 (named c.in-Ok-Arm.ensures c.in-Ok-Arm.field-0-is)

pub returns-in-Ok-Stop : goal.returns-in-Ok-Stop
returns-in-Ok-Stop c = c.stop_fields.ensures ∙ fields_of _ 4 (named c.in-Ok-Stop.ensures c.in-Ok-Stop.field-0-is)

pub returns-in-Ok-ReadInterrupts : goal.returns-in-Ok-ReadInterrupts
returns-in-Ok-ReadInterrupts c =
    c.no_fields.ensures ∙ fields_of _ 5 (named c.in-Ok-ReadInterrupts.ensures c.in-Ok-ReadInterrupts.field-0-is)

pub returns-in-Ok-SetMask : goal.returns-in-Ok-SetMask
returns-in-Ok-SetMask c =
    c.mask_fields.ensures ∙ fields_of _ 6 (named c.in-Ok-SetMask.ensures c.in-Ok-SetMask.field-0-is)

pub returns-in-Ok-ReadStatus : goal.returns-in-Ok-ReadStatus
returns-in-Ok-ReadStatus c =
    c.no_fields-in-Ok-ReadStatus.ensures
    ∙ fields_of _ 7 (named c.in-Ok-ReadStatus.ensures c.in-Ok-ReadStatus.field-0-is)

pub returns-in-Ok-ShowWords : goal.returns-in-Ok-ShowWords
returns-in-Ok-ShowWords c =
    c.no_fields-in-Ok-ShowWords.ensures ∙ fields_of _ 8 (named c.in-Ok-ShowWords.ensures c.in-Ok-ShowWords.field-0-is)

pub returns-in-Ok-Run : goal.returns-in-Ok-Run
returns-in-Ok-Run c = c.run_fields.ensures ∙ fields_of _ 9 (named c.in-Ok-Run.ensures c.in-Ok-Run.field-0-is)

pub returns-in-Ok-Preview : goal.returns-in-Ok-Preview
returns-in-Ok-Preview c =
    c.preview_fields.ensures ∙ fields_of _ 10 (named c.in-Ok-Preview.ensures c.in-Ok-Preview.field-0-is)

pub returns-in-Ok-Depart : goal.returns-in-Ok-Depart
returns-in-Ok-Depart c =
    c.depart_fields.ensures ∙ fields_of _ 11 (named c.in-Ok-Depart.ensures c.in-Ok-Depart.field-0-is)

pub returns-in-Ok-Recover : goal.returns-in-Ok-Recover
returns-in-Ok-Recover c =
    c.recover_fields.ensures ∙ fields_of _ 12 (named c.in-Ok-Recover.ensures c.in-Ok-Recover.field-0-is)

pub returns-in-Err : goal.returns-in-Err
returns-in-Err c = c.no_fields-in-Err.ensures ∙ fields_past _ c.in-Err.ensures.0
