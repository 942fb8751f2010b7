-- The statements of the theorems on positions and values, each a type that cites definitions only; the proofs are in proofs/.
pub mod Positions
pub mod ValueLimits
pub mod SegmentWeights
pub mod WeightCells
