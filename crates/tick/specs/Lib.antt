-- What a tick asks, and what it leaves of a part.
pub mod Ticks
