-- What the contracts of build_space cite beside the definitions of crate spec_spline.
pub mod Machine
pub mod Legal
