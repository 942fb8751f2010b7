-- The proofs of the statements in specs/. NullSpace is the step theorem on functions; Functional to Stepped bring a step
-- of the build into its form; Basis to Built go through the steps; Derivative to Published compare with the published
-- construction; Counted is about refusals; PublishedBasis and PartitionOfUnity state the results, Instances are examples with numbers.
pub mod NullSpace
pub mod Functional
pub mod Extended
pub mod Stepped
pub mod Basis
pub mod Identity
pub mod Pascal
pub mod Difference
pub mod Condition
pub mod Built
pub mod Derivative
pub mod Bidiagonal
pub mod Published
pub mod Counted
pub mod PublishedBasis
pub mod PartitionOfUnity
pub mod Cells
pub mod Instances
