-- What the contracts of tucson_read cite beside the definitions of crates spec_tucson and tucson_lines.
pub mod Write
