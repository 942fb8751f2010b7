-- The laws behind the value at one position: the ordinates of its segment, the inverses of the lengths, and its location.
pub mod Local
pub mod Inverses
pub mod Position
