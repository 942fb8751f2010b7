-- The laws behind the triangle: a blend, and the stages.
pub mod Blends
pub mod Stages
