-- What the contracts of build_step cite beside the definitions of crate spec_spline.
pub mod Asks
pub mod Leaves
