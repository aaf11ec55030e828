-- Each refusal's number in the table of document 01, "Where each command is checked", and of document 02 (11, A.4; 16
-- and 17, A.7); an answer is 0 where nothing is refused.
use Rattle.std.specs.Prelude.{ℕ, Result, Ok, Err}
use Rattle.change.specs.declared.refusal.Refusal.{Refusal}
use Rattle.change.specs.declared.refusal.Refusal.TheVariants.{Record, Op, Fields, NoTimestamp, Time, Amount, NoCycles}
use Rattle.change.specs.declared.refusal.Refusal.TheVariants.{Waiting, Interval, Running, Past, TimeOver, FieldFull}
use Rattle.change.specs.declared.refusal.Refusal.TheVariants.{NoDeparture}

abbrev pub number_of : Refusal → ℕ
number_of Record = 4
number_of Op = 5
number_of Fields = 6
number_of NoTimestamp = 7
number_of Time = 8
number_of Amount = 9
number_of NoCycles = 10
number_of Waiting = 11
number_of Interval = 12
number_of Running = 13
number_of Past = 14
number_of TimeOver = 15
number_of FieldFull = 16
number_of NoDeparture = 17

-- the answer that a check gives
abbrev pub answer_in : Result (Unit {0}) Refusal → ℕ
answer_in (Ok _) = 0
answer_in (Err r) = number_of r
