-- The proofs of the statements in specs/: ByLines of the buffers by the count of byte 10; Tabs, LineBytes, KeptBytes, ByBytes, NoteBytes
-- and WholeFile of those by the bytes of a file, and Again of a file cleaned twice; ByRings of the lines of a table; Instances is the theorems with numbers.
pub mod ByLines
pub mod Tabs
pub mod LineBytes
pub mod KeptBytes
pub mod ByBytes
pub mod NoteBytes
pub mod WholeFile
pub mod Again
pub mod ByRings
pub mod Instances
