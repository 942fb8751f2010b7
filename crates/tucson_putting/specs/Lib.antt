-- What the writing functions ask and leave.
pub mod Putting
