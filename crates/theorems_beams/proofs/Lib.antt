-- The proofs of the statements in specs/, and laws for other crates to cite as `Rattle.theorems_beams.proofs.M`. Carried is about
-- outcomes that follow one another, Embedded about a step on a table in a larger one, Sections about the numbers of a section, Cut
-- about a beam cut at a discontinuity, whatever kind of state the steps change, Sides about tables as such a kind, Ends about where
-- parts start and end, PartLegal about the lists of a part, Fronts about the beam up to the end of a part, as a loop over the parts
-- has it, Beside and Reading about the cells and ordinates of two tables in one. Parts proves the statements, Instances shows them at
-- numbers.
pub mod Carried
pub mod Embedded
pub mod Sections
pub mod Cut
pub mod Sides
pub mod Ends
pub mod PartLegal
pub mod Fronts
pub mod Beside
pub mod Reading
pub mod Parts
pub mod Instances
