-- Laws of a line's columns, numbers and end that the proofs of tucson_lines share; those of Lines and Found are also for a caller.
pub mod Found
pub mod Steps
pub mod Fields
pub mod Lines
pub mod LineNumerals
pub mod GoodLines
