-- Pieces between the positions: the statement; the proof is in proofs/.
pub mod Between
