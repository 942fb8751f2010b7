-- Laws of strict lines, of the closing that a unit gives, of the reader's step and of the verdict.
pub mod StrictColumns
pub mod Reclosing
pub mod Closing
pub mod Reading
pub mod Verdict
