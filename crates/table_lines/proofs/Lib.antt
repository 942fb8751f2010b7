-- Laws of the lines of a series, and of what the call ends with.
pub mod Rows
pub mod Call
