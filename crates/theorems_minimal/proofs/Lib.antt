-- The proof of the statement in specs/.
pub mod Minimal
pub mod Instances
