-- The crate's hand-written modules.
pub mod Plan
pub mod Stepped
pub mod Leaving
pub mod Repeated
pub mod Orders
