-- What the contracts of rings_input cite beside the definitions of crate spec_rings.
pub mod Machine
