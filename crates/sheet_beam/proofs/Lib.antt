-- The laws of a beam's w lines, part by part.
pub mod Beam
