-- What the functions of table_name tell.
pub mod Machine
