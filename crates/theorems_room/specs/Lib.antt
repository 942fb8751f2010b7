-- The statements of the theorems, each a type that cites definitions only; the proofs are in proofs/.
pub mod Room
pub mod TableRoom
pub mod AgainRoom
