-- What op 2 asks, and what its read returns.
pub mod Reading
