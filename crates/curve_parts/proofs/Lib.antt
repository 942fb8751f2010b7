-- The laws behind the parts of a beam with their ordinates: one part, and all of them.
pub mod Part
pub mod Fronts
