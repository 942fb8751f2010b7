-- The laws behind the limits of values, from the rounding up to the cells after a call, and the segments of positions.
-- Other crates cite Weights for the size of a weight, Segment and Positions for a position's segment, LegalCall and Cells for
-- a call, ValueLimits for a value.
pub mod Within
pub mod Rounding
pub mod Fine
pub mod Bernstein
pub mod Mean
pub mod Triangle
pub mod Extremum
pub mod Weights
pub mod Terms
pub mod Ordinate
pub mod Segment
pub mod Positions
pub mod ExactSum
pub mod OnSegment
pub mod Value
pub mod ValueLimits
pub mod SegmentWeights
pub mod LegalCall
pub mod Cells
pub mod WeightCells
pub mod Instances
