-- Laws of instants and of a tick, which the proofs of the functions cite.
pub mod Order
pub mod Carry
pub mod Ahead
pub mod Tick
pub mod Placed
