-- The proofs of the statements in specs/, and the laws of the call.
pub mod Codes
pub mod FirstReach
pub mod Instances
pub mod Call
