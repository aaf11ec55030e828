-- Why the two ops are the model's.
pub mod Checked
