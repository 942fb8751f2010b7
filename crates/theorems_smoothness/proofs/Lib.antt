-- The proofs of the statements in specs/. Polynomial has the laws of polynomials, Bernstein the derivatives and the end
-- values of the Bernstein form; Smoothness and Curve state the results, Instances are examples with numbers.
pub mod Polynomial
pub mod Bernstein
pub mod Smoothness
pub mod Curve
pub mod Instances
