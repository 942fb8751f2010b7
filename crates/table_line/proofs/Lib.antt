-- Laws of a line's numbers.
pub mod Numbers
