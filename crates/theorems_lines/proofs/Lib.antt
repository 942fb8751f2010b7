-- The proofs of the statements in specs/.
pub mod Equal
pub mod Lines
pub mod Ordinates
pub mod Instances
