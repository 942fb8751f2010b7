-- What the contracts of tucson_header cite beside the definitions of crate spec_tucson.
pub mod Machine
