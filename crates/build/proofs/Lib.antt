-- The crate's hand-written modules.
pub mod Building
pub mod Beam
