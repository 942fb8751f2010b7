-- Laws of a strict line's numbers.
pub mod LineFields
