-- The proofs of the statements in specs/.
pub mod Windows
pub mod PartValues
pub mod FallingBeams
pub mod Instances
