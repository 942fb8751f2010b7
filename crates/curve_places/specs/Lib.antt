-- What the contracts of curve_places cite beside the definitions of crate spec_spline.
pub mod Offsets
pub mod Inverses
pub mod Location
