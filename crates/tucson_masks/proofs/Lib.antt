-- Laws of characters and of ? for them that the proofs of tucson_masks share; those of Masks are also for a caller.
pub mod Bytes256
pub mod Characters
pub mod Masks
