-- Laws of the lines that are kept and of their series that the proofs of tucson_walk share.
pub mod Kept
pub mod Tracking
pub mod Skips
pub mod PlainFronts
pub mod NextLines
pub mod OtherNames
pub mod Looking
pub mod Entering
pub mod LineMarks
pub mod Taking
pub mod Steps
pub mod SoFar
