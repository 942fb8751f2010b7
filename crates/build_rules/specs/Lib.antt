-- What the contracts of build_rules cite beside the definitions of crate spec_spline.
pub mod Rules
