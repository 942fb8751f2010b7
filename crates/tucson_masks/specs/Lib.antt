-- What the contracts of tucson_masks cite beside the definitions of crate spec_tucson.
pub mod Machine
