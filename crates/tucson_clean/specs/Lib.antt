-- What the contracts of tucson_clean cite beside the definitions of crate spec_tucson.
pub mod Machine
