-- The proofs of the statements in specs/.
pub mod Quotients
pub mod ExactIndices
pub mod Instances
