-- Tucson decadal files (§ 14): what a line, a series and a text are, and what reading and writing end
-- with, the lent cells too; the program in Filter. And a laboratory's file, brought into this form (§ 16). What is proved of these
-- definitions is in crate theorems_tucson.
pub mod Columns
pub mod Line
pub mod Series
pub mod TextReading
pub mod ReadCall
pub mod Writing
pub mod WriteCall
pub mod Filter
pub mod FileText
pub mod Shown
pub mod StrictLine
pub mod KeptLines
pub mod CleanSeries
pub mod Notes
pub mod CleanNotes
pub mod CleanCall
