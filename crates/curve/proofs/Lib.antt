-- The laws behind the curve call.
pub mod Call
pub mod Pairs
