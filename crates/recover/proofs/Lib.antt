-- The crate's hand-written modules.
pub mod Listed
pub mod Beam
pub mod Calls
