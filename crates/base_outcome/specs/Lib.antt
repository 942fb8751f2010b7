-- The numbers of refusals, an answer or a refusal, the search for an index, and the machine's form of both.
pub mod Codes
pub mod Limits
pub mod Outcome
pub mod Search
pub mod Tests
pub mod Machine
