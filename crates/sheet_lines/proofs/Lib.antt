-- Laws of lists and lines: what their parts stand for, and how many entries a list has.
pub mod Entries
pub mod Ranges
pub mod Lines
