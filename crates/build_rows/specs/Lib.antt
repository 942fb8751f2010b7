-- What the contracts of build_rows cite beside the definitions of crate spec_spline.
pub mod Rows
