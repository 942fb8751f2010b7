-- The laws behind the start of a curve call: the ordinates at the front of a list, the outcome, what is left, and that an answered
-- call's space is accepted.
pub mod Fronted
pub mod Call
pub mod Leaves
pub mod Accepted
