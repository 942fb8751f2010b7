-- What the contracts of tucson_lines cite beside the definitions of crate spec_tucson.
pub mod Machine
