-- The proofs of the statements in specs/.
pub mod Codes
pub mod Instances
