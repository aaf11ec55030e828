-- Why reading a value digit by digit, and up to its comma, gives what the definitions say of the whole.
pub mod Runs
pub mod TakenParts
pub mod FilledPlaces
pub mod Behind
