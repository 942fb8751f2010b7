-- Exact numbers: the definitions. Rational numbers in lowest terms with their operations, order, sums and rounding, and lists
-- given by a rule for each place. Everything computes. A reader who believes these modules, Lowest aside, may take every
-- law of proofs/ as checked; how laws are named is said in proofs/Lib.
pub mod Gcd
pub mod Lowest
pub mod Rational
pub mod Order
pub mod Sum
pub mod Floor
pub mod Tabulate
