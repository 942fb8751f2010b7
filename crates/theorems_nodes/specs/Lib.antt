-- The nodes of a space, the coefficients of the line y = x: the statements; the proofs are in proofs/.
pub mod Nodes
