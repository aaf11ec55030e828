-- Laws of the definitions, each proved once and cited by the theorems here and by the layers above. In a name, `-in`
-- says that a part is in range, by its test or by how it is made; `-ok` that a part passes its test, `-valid` that a
-- record does, `-fails` that a row of the table does not; `-zero` and `-suc` are a formula at 0 and at one more, `-on`
-- one turn further; `-low` is a bound from above, `-test` the value of a test; `-free` says that no adjustment waits,
-- `-late` that the last second is passed.

-- tests and checks, tables; the ranges of check 4 and the field lists as facts
pub mod Testing
pub mod Tables
pub mod InRange
pub mod Listed
-- the parts
pub mod WordFields
pub mod Signed
pub mod ExactTime
pub mod FifoPlaces
pub mod Generated
pub mod Bits
-- the whole: what an accepted command has passed, that a valid record stays valid, ticks, outcomes, timestamps; number
-- 11 as it was, what the waiting adjustment does, a preview, and departure times
pub mod Accepting
pub mod Parts
pub mod Latching
pub mod TickRange
pub mod RunTicks
pub mod Valid
pub mod Departures
pub mod Ticks
pub mod Outcomes
pub mod FailedRows
pub mod NeverBack
pub mod NeverWaited
pub mod Waiting
pub mod Rehearsal
pub mod FieldChecks
pub mod Recovered
-- ticks by formula: the clock and the steering, the record, and both whatever the generators do; a run line by
-- `execute` alone
pub mod Cycles
pub mod Phases
pub mod Elapsed
pub mod Rehearsed
pub mod LastSecond
pub mod RunOfTicks
-- the eighth of an edge
pub mod Eighths
-- the values of an outcome are words
pub mod ResultValues
