-- The proofs of the statements in specs/.
pub mod Scaled
pub mod Moving
pub mod Instances
