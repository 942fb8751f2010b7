-- Laws of the table's numbers: their last digits and their signs.
pub mod Digits
