-- Why a preview by formula is the model's: its checks, and the time that it shows.
pub mod Checked
pub mod Shown
