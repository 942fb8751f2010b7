-- The laws behind the limits of a curve call: the refusals.
pub mod Refused
