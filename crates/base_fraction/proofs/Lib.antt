-- Machine fractions: the laws, for other crates to cite as `Rattle.base_fraction.proofs.M`. Named as base_exact names its laws.
-- Value: a machine pair and the fraction that it stands for.
-- Size: the size test and counting. Answer: what an answer says to a caller. Bounds: no operation overflows.
-- Fractions: fractions in two arrays.
pub mod Value
pub mod Size
pub mod Answer
pub mod Bounds
pub mod Fractions
pub mod Examples
