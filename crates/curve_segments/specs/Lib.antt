-- What the contracts of curve_segments cite beside the definitions of crate spec_spline.
pub mod Segments
