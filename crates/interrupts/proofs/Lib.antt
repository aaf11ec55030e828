-- Laws that belong to no one function.
pub mod Masks
pub mod Turns
pub mod Table
