-- The crate's hand-written modules.
pub mod Quotients
pub mod Answers
