-- The number of each op.
pub mod Numbers
