-- What the contracts of build_joins cite beside the definitions of crate spec_spline.
pub mod Leaves
pub mod Asks
