-- Laws of the bytes of a series.
pub mod Fronts
pub mod Bounds
pub mod Indexed
