-- What the contracts of tucson_names cite beside the definitions of crate spec_tucson.
pub mod Machine
