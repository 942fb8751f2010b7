-- The definitions in specs/, computed, and what an accepted input is.
pub mod Accepted
pub mod Computing
pub mod Cases
