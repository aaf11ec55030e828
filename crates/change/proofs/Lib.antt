-- Which commands move a FIFO.
pub mod Given
