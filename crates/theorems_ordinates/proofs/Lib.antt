-- The proof of the statement in specs/.
pub mod FallingOrdinates
pub mod Instances
