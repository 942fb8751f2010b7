-- The crate's hand-written module.
pub mod Struct
