-- Laws of the pieces, and the pieces with numbers.
pub mod Turns
pub mod Pieces
pub mod Instances
