-- What is true of the time engine: the definitions of document 01, to be read in this order. The first line of each
-- file names the section that its definitions state.
--
-- Words of document 01: the time shown is seconds, nanoseconds and 1/256 ns, the remainder what it leaves of the exact
-- time, in 2^-32 ns; the step is what a tick adds to the time shown; a stamp is a timestamp, and a store its FIFO; a
-- start and an interval W + N/D make a generator's order, whose instants are its train; EDGE, FRAC, NS and COUNT are
-- fields of the five words; TAC, EC, SC, NE and OF interrupt bits.
-- Words of this project: an op is performed, a command executed; an outcome is answer, values and the next record; a
-- number is that of a failed check, and its sentence what the table says of it; a rehearsal is what a preview does, as
-- commands; a change Gives an outcome where applying it makes it.
-- The ledger of demand 3 is the crate ledger's; sheets, and what their runs print, are the crate text's.

-- numbers that have a name; tests, and the list of checks
pub mod Units
pub mod Tests
-- the parts: the five words, the clock and its steering, edges, timestamp FIFOs, event generators, interrupt bits
pub mod Words
pub mod Clock
pub mod Edges
pub mod Fifo
pub mod Generator
pub mod Interrupts
-- the whole: the record, and what each op does: a tick, a run of ticks and its formula, the others, a preview,
-- departure times, the table of ops
pub mod Record
pub mod Outcome
pub mod Tick
pub mod RunLine
pub mod Elapse
pub mod OtherOps
pub mod Preview
pub mod Departure
pub mod Ops
-- the record's ranges (number 4), the field lists (number 6), the table of checks; the checks, then the op; a run, and
-- the timestamps in it; for theorems, each number by its sentence, the eighth by its old formula and number 11 as it
-- was
pub mod Ranges
pub mod Bounds
pub mod Fields
pub mod Checks
pub mod Execute
pub mod Sentences
pub mod Run
pub mod TimestampsOn
pub mod FloorEighth
pub mod RuleBefore
