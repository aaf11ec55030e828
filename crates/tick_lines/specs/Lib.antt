-- The lines that are read at once.
pub mod AtOnce
