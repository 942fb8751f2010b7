-- What the contracts of curve cite beside the definitions of crate spec_spline.
pub mod Pairs
