-- The exact time within a second.
pub mod Seconds
