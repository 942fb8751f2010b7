-- What the contracts of tucson_caption cite beside the definitions of crate spec_tucson.
pub mod Machine
