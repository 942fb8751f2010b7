-- What the contracts of sheet_text cite beside the definitions of the crates below.
pub mod Limit
