-- What a number that names an op is.
pub mod Numbered
