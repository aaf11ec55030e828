-- Why a sheet may be judged by its head first, and why the lines that are left give the verdict on all.
pub mod Head
pub mod Body
