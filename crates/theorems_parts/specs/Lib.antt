-- The values of a beam and those of its parts: the statements, each a type that cites definitions only; the proofs are in proofs/.
pub mod PartValues
pub mod FallingBeams
