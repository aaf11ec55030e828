-- Why demand 3 holds: an invariant that ties the record to the ledger and to the returned edges, kept by every
-- command.

-- a code tells its edge; a generator against its order, at rest and in a tick
pub mod Codes
pub mod Train
pub mod LedgerTick
-- the invariant, and each op; then every command, and every list
pub mod Agrees
pub mod OnTick
pub mod OnRun
pub mod OnWords
pub mod OnOrder
pub mod OnCommand
pub mod Lists
