-- What the contracts of tucson_series cite beside the definitions of crate spec_tucson: the sizes of series.
pub mod Sizes
