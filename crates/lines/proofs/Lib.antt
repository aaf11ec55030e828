-- Why a line that is read part by part, or at once, reads as the definitions say.
pub mod Lines
pub mod LineParts
pub mod Rows
pub mod Ticks
pub mod TicksRead
