-- What the contracts of build_factors cite beside the definitions of crate spec_spline.
pub mod Machine
pub mod Jumps
