-- Laws of ring indices.
pub mod Ring
pub mod Cells
pub mod Rings
pub mod Positive
pub mod Instances
