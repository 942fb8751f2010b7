-- Ring indices beside those of the exact curve: the statements, each a type that cites definitions only; the proofs are in proofs/.
pub mod ExactIndices
