-- A text in a lent buffer, and the line of a refusal.
pub mod Buffer
pub mod Refusal
