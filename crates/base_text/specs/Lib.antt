-- What the contracts of base_text cite: texts as lists of bytes, and numbers in decimal digits.
pub mod Bytes
pub mod Numeral
pub mod Machine
