-- Pieces for the screen: the proofs of PieceCurve's statements, and the laws behind the call.
pub mod AtEnds
pub mod Joins
pub mod PieceCurve
pub mod Instances
pub mod Held
