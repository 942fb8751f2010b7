-- The proofs of the statements in specs/: Changes and Told of lines, Cuts of the text; Instances is the theorems with numbers.
pub mod Changes
pub mod Told
pub mod Cuts
pub mod Instances
