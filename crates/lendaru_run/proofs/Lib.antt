-- Why a run's change needs no FIFO moved.
pub mod Applied
