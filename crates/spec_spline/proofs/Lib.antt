-- Laws of the definitions in specs/, for other crates to cite as `Rattle.spec_spline.proofs.M`. A module has the name of the
-- definitions that its laws are about; Parts is about where the parts of a beam end, Legal about spaces that pass the checks,
-- Splice about a list with some elements replaced, Pairs about the two wood parts and pairs side by side, Planned about the
-- two halves of a step, Answers, NewRows and Stepped about what a step that answers has done, Shape about the rows and columns that it leaves, TableFits about entries that
-- fit, Induction about going on over orders and joins, Refusals about where a step refuses. Computing names what examples are
-- computed with; Cases proves the cases W1 to W10.
pub mod Space
pub mod Parts
pub mod Legal
pub mod Conditions
pub mod Table
pub mod Splice
pub mod Reading
pub mod Pairs
pub mod Step
pub mod Planned
pub mod Build
pub mod Answers
pub mod NewRows
pub mod Induction
pub mod Stepped
pub mod Shape
pub mod TableFits
pub mod Refusals
pub mod Computing
pub mod Cases
