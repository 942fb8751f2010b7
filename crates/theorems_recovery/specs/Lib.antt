-- Statements on coefficients from local ordinates (§ 12), which crate spec_calls defines: Reproduction, RecoveredCells of the cells after
-- a call, and Beams of the parts of a beam.
pub mod Reproduction
pub mod RecoveredCells
pub mod Beams
