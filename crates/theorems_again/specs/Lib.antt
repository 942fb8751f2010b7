-- The statement of the theorem, a type that cites definitions only; the proof is in proofs/.
pub mod Again
