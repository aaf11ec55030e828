-- The cycle in which an edge or the end of time falls, and what the functions ask.
pub mod Reach
pub mod Asked
