-- The statements of the theorems on the weights, each a type that cites definitions only; the proofs are in proofs/.
pub mod PublishedBasis
pub mod PartitionOfUnity
pub mod Counted
pub mod Cells
