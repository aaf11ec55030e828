-- A digit of a base, one digit more of a value, and the number of the digits of a base.
pub mod Digits
