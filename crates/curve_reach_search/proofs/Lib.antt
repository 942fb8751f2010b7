-- The laws of the search over the segments: positions by their index, the offsets of a segment, and what is found.
pub mod Positions
pub mod Offsets
pub mod Searching
