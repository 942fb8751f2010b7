-- The crate's hand-written modules.
pub mod Later
pub mod Grown
pub mod Joins
pub mod Turns
pub mod Ends
