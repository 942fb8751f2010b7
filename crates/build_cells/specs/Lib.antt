-- What the contracts of build_cells cite beside the definitions of crate spec_spline.
pub mod Region
pub mod Held
pub mod Left
