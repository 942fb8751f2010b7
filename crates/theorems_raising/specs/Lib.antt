-- Raised and moved coefficients: the statements, each a type that cites definitions only; the proofs are in proofs/.
pub mod Raising
pub mod Moving
