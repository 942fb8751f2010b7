-- The laws behind the refusals 6 and 7: the tests of the entries, and the refusals.
pub mod Entries
pub mod Refused
