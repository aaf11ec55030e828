-- Demand 3, then what it rests on.
pub mod Demand3
pub mod Laws
pub mod Follow
