-- The statements that join conditions are smoothness, with the polynomials they speak of; the proofs are in proofs/.
pub mod Polynomial
pub mod Bernstein
pub mod Smoothness
