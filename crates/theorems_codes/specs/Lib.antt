-- Which numbers each call can give: the statements, each a type that cites definitions only; the proofs are in proofs/.
pub mod Codes
