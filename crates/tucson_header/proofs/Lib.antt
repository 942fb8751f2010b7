-- Laws of the lines that are looked at for a header.
pub mod HeaderLines
