-- Laws of what is held between two lines.
pub mod HeldLines
pub mod Turns
