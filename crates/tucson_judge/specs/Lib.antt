-- What the contracts of tucson_judge cite beside the definitions of crate spec_tucson.
pub mod Judging
