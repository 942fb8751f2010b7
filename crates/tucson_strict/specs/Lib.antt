-- The contracts of tucson_strict cite the definitions of crate spec_tucson, and these.
pub mod Machine
