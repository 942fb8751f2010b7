-- Laws that the proofs of sheet_text share.
pub mod Whole
pub mod Parts
