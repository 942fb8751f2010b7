-- Laws of a name in the table, byte after byte.
pub mod Name
