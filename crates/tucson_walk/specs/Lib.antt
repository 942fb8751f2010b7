-- What the contracts of tucson_walk cite beside the definitions of crate spec_tucson.
pub mod Skipping
pub mod Following
pub mod Tracking
pub mod Walking
