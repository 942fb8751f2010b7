-- The laws of the call.
pub mod Words
pub mod Positions
pub mod Call
