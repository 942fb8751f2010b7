-- Laws of shown and strict lines that the proofs of tucson_shown share.
pub mod Fields
pub mod Untabbed
pub mod Told
