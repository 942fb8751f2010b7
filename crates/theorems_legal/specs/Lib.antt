-- Smoothness in every legal space, whatever 8 says: the statements; the proofs are in proofs/.
pub mod Smoothness
