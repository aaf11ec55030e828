-- Why a result of zeros is its line number and one text.
pub mod Zeros
