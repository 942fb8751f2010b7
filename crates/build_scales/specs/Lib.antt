-- What the contracts of build_scales cite beside the definitions of crate spec_spline.
pub mod Scales
