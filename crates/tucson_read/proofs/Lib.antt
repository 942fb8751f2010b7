-- The laws of the call.
pub mod Sets
pub mod Filling
pub mod Inverting
pub mod Writes
pub mod Answers
