-- The theorems on sheets, then what they rest on.
pub mod Sheets
pub mod EitherWriting
pub mod Examples
pub mod Laws
