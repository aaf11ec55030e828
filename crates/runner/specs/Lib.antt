-- What the run of a sheet leaves in the buffer.
pub mod Ran
