-- Why a run is found by formula: the run, its FIFOs, the stretch that the code finds and its last
-- tick, and its two checks.
pub mod Formula
pub mod Kept
pub mod Found
pub mod Last
pub mod Checked
