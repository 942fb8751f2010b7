-- Laws of a file's bytes that the proofs of tucson_file share.
pub mod Faults
pub mod LineEnds
