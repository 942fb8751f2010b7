-- What the contracts of tucson_columns cite beside the definitions of crate spec_tucson.
pub mod Machine
