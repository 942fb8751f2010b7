-- What the contracts of build_entry cite beside the definitions of crate spec_spline.
pub mod Factor
