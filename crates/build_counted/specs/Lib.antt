-- What the contracts of build_counted cite beside the definitions of crate spec_spline.
pub mod Machine
