-- Laws of the cells' lines; Stored is for a caller whose buffers hold a table.
pub mod Printed
pub mod Stored
