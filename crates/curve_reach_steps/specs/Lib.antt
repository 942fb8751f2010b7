-- What the contracts of curve_reach_steps cite beside the definitions of crate spec_spline.
pub mod Machine
pub mod Asks
