-- The proofs of the statements in specs/.
pub mod Support
pub mod Ends
pub mod Instances
