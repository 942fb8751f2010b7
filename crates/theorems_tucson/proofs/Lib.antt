-- Columns, Decade, Lines and InDecades are laws of numbers in columns, of years, of one line and of a series cut into lines;
-- ReadsBack proves that what is written reads back. GoodLines, Rescaled and FirstSeries are what is known of accepted lines, of
-- widths brought into thousandths and of accepted series; Rewritten proves the reverse. TucsonCells carries both to the two
-- calls, Refusals gives all that these can refuse with, and Instances shows the theorems with numbers.
pub mod Columns
pub mod Decade
pub mod Lines
pub mod InDecades
pub mod ReadsBack
pub mod GoodLines
pub mod Rescaled
pub mod FirstSeries
pub mod Rewritten
pub mod TucsonCells
pub mod Refusals
pub mod Instances
