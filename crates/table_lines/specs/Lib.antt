-- The lists of a series as the machine has them.
pub mod Machine
