-- Laws of a line's columns that the proofs of tucson_columns share; a caller may cite them too.
pub mod Shown
