-- Why the results of a sheet were not all written.
pub mod Failure
