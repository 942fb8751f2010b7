-- Exact ordinates of lists that do not rise: the statement; the proof is in proofs/.
pub mod FallingOrdinates
