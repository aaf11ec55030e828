-- Laws of the definitions, each proved once and cited by the theorems here and by the layers above. What is written is
-- read, and what is read is what was written: numbers, the parts of a text, lines and sheets of any form, and the
-- command sheet. In a name, `-length` is the length of a text, `-some` says that it is not empty, `-is` what it is.
pub mod Digits
pub mod Decimal
pub mod Values
pub mod Splits
pub mod Starts
pub mod FirstPart
pub mod FormLines
pub mod FormSheets
pub mod Lines
pub mod CommandSheets
pub mod TwoWritings
pub mod PlainSheets
-- the results of every sheet fit into the room for them
pub mod ResultsFit
