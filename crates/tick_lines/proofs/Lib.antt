-- Why bytes that are compared as numbers, and digits that are read one by one, are the lines of ticks.
pub mod Eights
pub mod Digits
pub mod TicksLines
