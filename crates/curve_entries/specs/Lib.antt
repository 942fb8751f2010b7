-- What the contracts of curve_entries cite beside the definitions of crate spec_spline.
pub mod Limits
