-- What the contracts of sheet_beam cite beside the definitions of the crates below.
pub mod Beam
