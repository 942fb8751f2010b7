-- The proofs of the statements in specs/.
pub mod Refused
pub mod Codes
pub mod Instances
