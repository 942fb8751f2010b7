-- What the contracts of tucson_site cite beside the definitions of crate spec_tucson.
pub mod Machine
