-- What one coefficient touches: the statements, each a type that cites definitions only; the proofs are in proofs/.
pub mod Support
pub mod Ends
