-- The laws of the steps through a segment: how far values can rise, and what may be passed over.
pub mod Distances
pub mod Steps
pub mod Rises
pub mod Passing
