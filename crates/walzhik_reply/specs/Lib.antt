-- What the contracts of both libraries cite for an answer by a count.
pub mod Machine
