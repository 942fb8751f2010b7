-- What the contracts of tucson_check cite beside the definitions of crates spec_tucson and tucson_judge.
pub mod Holding
