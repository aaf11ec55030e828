-- Every number has its one sentence: where no check above it fails, it comes exactly when its sentence of document 01's
-- table, or of a request of document 02, holds. Number 4 is told by records at its limits (Examples/RecordLimits.antt).
use Rattle.model.specs.declared.Engine.{Engine}
use Rattle.model.specs.declared.Command.{Command}
use Rattle.model.specs.Sentences.{Sentences}
use Rattle.model.proofs.Laws.FailedRows as Law
use Rattle.model.proofs.Laws.LastSecond.{number_15}
use Rattle.model.proofs.Laws.FieldChecks.{number_16, number_17}

pub every_number : (e : Engine) (c : Command) → Sentences e c
every_number e c = record {
  number5 = Law.number_5 e c;
  number6 = Law.number_6 e c;
  number7 = Law.number_7 e c;
  number8 = Law.number_8 e c;
  number9 = Law.number_9 e c;
  number10 = Law.number_10 e c;
  number11 = Law.number_11 e c;
  number12 = Law.number_12 e c;
  number13 = Law.number_13 e c;
  number14 = Law.number_14 e c;
  number15 = number_15 e c;
  number16 = number_16 e c;
  number17 = number_17 e c;
}
