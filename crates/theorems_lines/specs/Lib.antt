-- What is reproduced: equal coefficients, straight lines, and ordinates as coefficients; the proofs are in proofs/.
pub mod Equal
pub mod Lines
pub mod Ordinates
