-- What the contracts of build_conditions cite beside the definitions of crate spec_spline.
pub mod Sides
pub mod Terms
