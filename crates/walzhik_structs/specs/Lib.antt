-- How the structs are read: each from the outcome of the call that answers by it.
pub mod Machine
pub mod Piece
pub mod File
