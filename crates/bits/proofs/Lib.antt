-- Why shifts and masks are divisions, remainders and sums.
pub mod Masks
