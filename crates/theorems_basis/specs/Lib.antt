-- The statements of the theorems on the published construction of every legal space, each a type that cites definitions
-- only; the proofs are in proofs/.
pub mod Basis
pub mod Coefficients
