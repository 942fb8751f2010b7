-- Laws of the whole file that the proofs of tucson_clean share.
pub mod Tails
pub mod Whole
pub mod Room
pub mod Below
pub mod Bodies
pub mod Calls
