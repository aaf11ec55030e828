-- Bytes as a number, the value at an index, and the values at the front of a line.
pub mod Bytes
pub mod Taking
pub mod Fronts
