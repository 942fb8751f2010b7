-- The proofs of the statements in specs/.
pub mod OnePart
pub mod NineNever
pub mod WeightColumns
pub mod PositiveValues
pub mod Directions
pub mod PartOrdinates
pub mod FallingCurves
pub mod FallingInstances
pub mod Instances
