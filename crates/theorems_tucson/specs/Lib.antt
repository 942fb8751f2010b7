-- The statements of the theorems on Tucson files, each a type that cites definitions only; the proofs are in proofs/.
pub mod RoundTrip
pub mod TucsonCells
pub mod Refusals
