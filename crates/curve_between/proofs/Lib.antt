-- The proof of the statement in specs/.
pub mod Between
pub mod Instances
