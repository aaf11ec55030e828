-- The other side of demand 3, to be read in this order: exact fractions, the ledger and its steps, how an entry of the
-- history is booked, and what is asked. Document 01, "The ledger of demand 3".
--
-- Words of this project: told and booked are what the ledger learns of a command; a fraction Is a number over another;
-- a record Agrees with a ledger, a generator Follows an order.
pub mod Fractions
pub mod Ledger
pub mod Bookings
pub mod Instants
