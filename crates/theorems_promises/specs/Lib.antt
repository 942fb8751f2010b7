-- What members can count on before they type: the statements, each a type that cites definitions only; the proofs are in proofs/.
pub mod OnePart
pub mod NineNever
pub mod WeightColumns
pub mod PositiveValues
pub mod FallingCurves
