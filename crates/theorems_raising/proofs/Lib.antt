-- The proofs of the statements in specs/.
pub mod Ordinates
pub mod Values
pub mod Raising
pub mod Moving
pub mod Instances
