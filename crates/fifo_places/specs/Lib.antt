-- What the functions over three FIFOs test.
pub mod Fifos
