-- The proof of the statement in specs/, and Instances is it with numbers.
pub mod Widths
pub mod Instances
