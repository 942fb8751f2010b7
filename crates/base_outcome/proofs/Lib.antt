-- Laws of outcomes and searches, for other crates to cite as `Rattle.base_outcome.proofs.M`.
pub mod Outcome
pub mod Search
pub mod Machine
pub mod Reply
