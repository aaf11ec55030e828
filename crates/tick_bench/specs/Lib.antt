-- What the benchmark runs.
pub mod Ticks
