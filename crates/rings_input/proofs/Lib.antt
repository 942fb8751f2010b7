-- Laws of the parts.
pub mod Parts
