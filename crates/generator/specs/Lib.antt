-- What the functions ask of a generator and a clock, and what they make of them.
pub mod Advance
