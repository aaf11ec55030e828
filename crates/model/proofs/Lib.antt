-- The theorems, then what they rest on.
pub mod Demand1
pub mod Demand2
pub mod EveryNumber
pub mod RunLines
pub mod Timestamps
pub mod EighthIsFloor
pub mod WaitingAdjustment
pub mod PreviewIsRehearsal
pub mod DepartureTime
pub mod BeforeWaiting
pub mod Examples
pub mod Laws
