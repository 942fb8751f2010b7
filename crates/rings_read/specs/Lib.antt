-- What the contracts of rings_read cite beside the definitions of crate spec_rings.
pub mod Machine
