-- Why reading a value digit by digit gives what the definitions say of the whole.
pub mod DigitByDigit
pub mod Values
