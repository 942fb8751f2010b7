-- The proofs of the statements in specs/: Reader and Stays; Instances is the theorems with numbers.
pub mod Reader
pub mod Stays
pub mod Instances
