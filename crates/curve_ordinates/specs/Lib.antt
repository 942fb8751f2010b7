-- What the contracts of curve_ordinates cite beside the definitions of crate spec_spline.
pub mod Wood
pub mod Ordinates
