-- The crate's hand-written modules.
pub mod Ordinates
