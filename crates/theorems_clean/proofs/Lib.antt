-- The proof of the statement in specs/, and laws that other theorems on laboratories' files rest on. Answers is what an answer tells; StrictLines,
-- Accepted, WrittenForm, ShownBytes, StrictShown and ReadLines are laws of strict lines, Sources, Lines and Headers of the lines that are kept;
-- Shown proves the statement, and Instances is it with numbers.
pub mod Answers
pub mod StrictLines
pub mod Accepted
pub mod WrittenForm
pub mod ShownBytes
pub mod Sources
pub mod Lines
pub mod Shown
pub mod Headers
pub mod ReadLines
pub mod StrictShown
pub mod Instances
