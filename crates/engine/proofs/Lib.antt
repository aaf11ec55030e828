-- Why a step is the model's execute and keeps a valid record valid.
pub mod Steps
