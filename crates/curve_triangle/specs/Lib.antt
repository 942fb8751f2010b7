-- What the contracts of curve_triangle cite beside the definitions of crate spec_spline.
pub mod Triangle
