-- The laws of the first positions.
pub mod First
