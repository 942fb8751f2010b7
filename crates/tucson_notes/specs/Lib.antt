-- What the contracts of tucson_notes cite beside the definitions of crate spec_tucson.
pub mod Machine
