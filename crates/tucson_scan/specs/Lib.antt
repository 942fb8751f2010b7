-- What the contracts of tucson_scan cite beside the definitions of crates spec_tucson and tucson_lines.
pub mod Scan
