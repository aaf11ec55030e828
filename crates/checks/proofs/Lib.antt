-- The list of checks, by op.
pub mod Table
