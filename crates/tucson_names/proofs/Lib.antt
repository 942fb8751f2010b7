-- Laws of a line's columns one at a time.
pub mod NameColumns
