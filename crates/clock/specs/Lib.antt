-- What a tick of the clock asks.
pub mod Cycle
