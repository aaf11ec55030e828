-- Why a row is its numbers one behind the other.
pub mod Rows
