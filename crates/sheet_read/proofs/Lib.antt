-- Laws of the numbers of a list and of the whole answer; Answers is also for a caller.
pub mod Sheets
pub mod Separators
pub mod Filling
pub mod Numerals
pub mod Answers
