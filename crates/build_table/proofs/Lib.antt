-- The crate's hand-written modules.
pub mod Added
