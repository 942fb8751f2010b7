-- The proofs of the statements in specs/, by computation: Cases of the table of calls, Ends of what the calls leave, with some calls computed.
-- Computing names what recovered coefficients are computed with.
pub mod Computing
pub mod Cases
pub mod Ends
