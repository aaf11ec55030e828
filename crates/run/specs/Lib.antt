-- A run by formula: what its parts give, and what they ask.
pub mod Runs
