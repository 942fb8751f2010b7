-- The numbers of a series, and so with numbers.
pub mod Widths
pub mod SeriesNumbers
pub mod Instances
