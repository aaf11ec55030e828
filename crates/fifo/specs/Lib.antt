-- What the functions ask of a FIFO and a clock, and what they make of them.
pub mod Capture
