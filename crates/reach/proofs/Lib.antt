-- When the cycles have brought a need; an edge and the end of time as needs; that all of it fits into 64 bits.
pub mod Reached
pub mod Edges
pub mod Sizes
pub mod Cases
