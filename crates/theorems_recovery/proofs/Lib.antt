-- The proofs of the statements in specs/. Undoing is one step undone, on functions; Answers and Steps bring a step of the
-- definition into that form; Reproduction goes through the steps and states the results, RecoveredCells those on cells, Instances are examples with numbers;
-- Moved is a step on a table in a larger one, Cut combinations as a kind of state that a beam is cut with, Fronts the loop over its parts.
pub mod Undoing
pub mod Answers
pub mod Steps
pub mod Refusals
pub mod Reproduction
pub mod RecoveredCells
pub mod Instances
pub mod Moved
pub mod Cut
pub mod Fronts
