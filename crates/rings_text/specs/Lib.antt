-- What the contracts of rings_text cite beside the definitions of crate spec_rings.
pub mod Printed
