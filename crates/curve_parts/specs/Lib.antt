-- What building the parts of a beam and their ordinates asks and leaves.
pub mod Parts
