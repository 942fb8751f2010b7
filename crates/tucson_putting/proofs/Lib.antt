-- Laws of what is written: fields, lines and texts one after another.
pub mod Wrote
pub mod Fields
pub mod Lines
pub mod AllPut
