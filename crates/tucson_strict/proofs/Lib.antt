-- Laws of strict lines that the proofs of tucson_strict share; those of Strict are also for a caller.
pub mod Strict
pub mod Numbers
