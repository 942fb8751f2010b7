-- Laws of the pass through the lines that looks them through, and of what it counts.
pub mod Passing
pub mod Counts
