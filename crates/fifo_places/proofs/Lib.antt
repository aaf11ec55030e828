-- Laws that belong to no one function.
pub mod Merged
pub mod Places
