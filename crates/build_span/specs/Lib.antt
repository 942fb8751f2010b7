-- What the contracts of build_span cite beside the definitions of crate spec_spline.
pub mod Machine
