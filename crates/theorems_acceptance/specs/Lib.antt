-- The statements of the theorems on accepted spaces, each a type that cites definitions only; the proofs are in proofs/.
pub mod Acceptance
pub mod WeightCount
pub mod Curves
pub mod Values
pub mod ClosedForms
