-- Pieces for the screen (§ 11), which crate spec_calls defines: the machine's form in Machine, the statements in PieceCurve.
pub mod Machine
pub mod PieceCurve
