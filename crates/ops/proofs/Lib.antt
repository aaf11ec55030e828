-- Why an accepted op 2 may write and read.
pub mod Passed
