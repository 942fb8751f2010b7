-- The laws behind the floats: the cast and the product are exact, and what each case holds.
pub mod Floats
pub mod Cases
