-- Which numbers the reach and piece calls can give: the statements; the proofs are in proofs/.
pub mod Codes
