-- What the contracts of curve_drawing cite.
pub mod Floats
