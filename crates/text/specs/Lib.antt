-- What is true of text, to be read in this order: numbers as text, sheets of numbers with their own checks (numbers
-- 1 to 3), the command sheet, and what its run prints. Document 01, "Command sheet".
pub mod Text
pub mod Forms
pub mod Sheet
pub mod Results
