-- The crate's hand-written modules.
pub mod Mixed
pub mod Mixing
