-- A pair of digits, and what a writer leaves in a buffer.
pub mod Pair
pub mod Written
