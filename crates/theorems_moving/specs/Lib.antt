-- Breakpoints and positions moved and scaled together: the statements; the proofs are in proofs/.
pub mod Moving
