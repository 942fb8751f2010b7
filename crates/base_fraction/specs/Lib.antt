-- Machine fractions: the definitions that the contracts cite. Size has the test of the specification, Machine what a pair of
-- machine numbers stands for and which pairs are operands, Fractions how a list of fractions lies in two arrays.
pub mod Size
pub mod Machine
pub mod Fractions
