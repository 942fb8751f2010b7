-- A reader of tables, and the statement that it finds in the lines of the table of indices what they were written from.
pub mod Reader
pub mod ReadsBack
