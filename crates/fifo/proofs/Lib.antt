-- Why a code's eighth and direction and the carries of a timestamp are what the definitions say, what becomes of an
-- edge, and when one leaves its FIFO alone.
pub mod Codes
pub mod Offsets
pub mod Arrivals
