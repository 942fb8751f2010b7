-- The proofs of the statements in specs/. Factors finds the factors of a step from the signs of its jumps; Stages goes through
-- the loops of the published construction; Basis and Coefficients state the results, Instances are examples with numbers.
pub mod Factors
pub mod Stages
pub mod Basis
pub mod Coefficients
pub mod Instances
