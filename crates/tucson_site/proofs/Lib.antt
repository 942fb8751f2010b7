-- Laws of site names that the proofs of tucson_site share.
pub mod Where
pub mod Sites
