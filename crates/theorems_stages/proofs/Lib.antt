-- Laws for other crates to cite. Rows to Support are about one ordinate: which rows have weight on it, in numbers and under mixing.
-- Factors to Invariant go from the steps of the build to the form of the table at every stage. Cumulative to Signs work out the
-- partial sums of a step's jumps, Tests and Entries the fractions that a step counts; Reached says that every stage of a build has
-- this form, and Refusals which tests a refused build has failed.
pub mod Rows
pub mod RowMoves
pub mod Support
pub mod Factors
pub mod Limits
pub mod Stages
pub mod Invariant
pub mod Cumulative
pub mod Alternating
pub mod JumpSums
pub mod OrderSums
pub mod Signs
pub mod Tests
pub mod Entries
pub mod Reached
pub mod Refusals
