-- The crate's hand-written modules.
pub mod Refusals
pub mod Undone
pub mod Stepped
pub mod Orders
pub mod Later
pub mod Turns
