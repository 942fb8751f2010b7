-- The proofs of the statements in specs/: Accounts of lines, Rising of their numbers, Padding of what stands behind byte 26; Instances is
-- the theorems with numbers.
pub mod Accounts
pub mod Rising
pub mod Padding
pub mod Instances
