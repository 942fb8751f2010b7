-- Laws of columns and headers that the proofs of tucson_caption share.
pub mod Captions
