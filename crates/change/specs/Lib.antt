-- What a command gives and changes, and why it is refused.
pub mod Refusals
pub mod Changes
