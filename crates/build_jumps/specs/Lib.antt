-- What the contracts of build_jumps cite beside the definitions of crate spec_spline.
pub mod Jump
pub mod Machine
