-- What the contracts of tucson_shown cite beside the definitions of crate spec_tucson.
pub mod Machine
