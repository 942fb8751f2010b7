-- What the contracts of tucson_file cite beside the definitions of crate spec_tucson.
pub mod Machine
