-- The proofs of the statements in specs/.
pub mod Smoothness
pub mod Instances
