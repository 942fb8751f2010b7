-- The laws of the three lists: what the machine's tests of an entry say, what the answers say, and what legal lists give.
pub mod Tests
pub mod Entries
pub mod Bounds
pub mod Partial
pub mod Legal
