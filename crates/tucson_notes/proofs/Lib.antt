-- Laws of strict lines and of remarks that the proofs of tucson_notes share.
pub mod StrictFields
pub mod Remarks
