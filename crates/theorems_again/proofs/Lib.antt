-- The proof of the statement in specs/: Texts of the bytes of an answer, Renumbered of its lines, Closings and Years of the codes 23 to 25, Remarks of
-- the notes; Again proves the statement, and Instances is it with numbers.
pub mod Texts
pub mod Renumbered
pub mod Closings
pub mod Years
pub mod Remarks
pub mod Again
pub mod Instances
