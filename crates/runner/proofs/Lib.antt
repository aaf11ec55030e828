-- Why a run, line by line, writes what the definitions say of the whole sheet.
pub mod Turns
pub mod Whole
