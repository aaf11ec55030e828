-- That all of it fits into 64 bits.
pub mod Numbers
