-- Minimal support: the statement; the proof is in proofs/.
pub mod Minimal
