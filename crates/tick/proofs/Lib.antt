-- What an accepted tick knows of its record, which ticks are accepted, and what its events come from.
pub mod Within
pub mod Checked
pub mod Causes
