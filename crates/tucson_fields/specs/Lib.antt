-- What the contracts of tucson_fields cite beside the definitions of crate spec_tucson.
pub mod Machine
