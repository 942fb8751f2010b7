-- Laws of what is held.
pub mod Held
pub mod Judging
