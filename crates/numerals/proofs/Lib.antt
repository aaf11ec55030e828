-- Why texts that are written one behind the other are one text, and a number is its hundredth and two digits.
pub mod Puts
pub mod Pairs
