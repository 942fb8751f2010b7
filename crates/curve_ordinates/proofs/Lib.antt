-- The laws behind the ordinates: the terms of an ordinate, of a column and of all columns.
pub mod Best
pub mod Bounds
pub mod Gathered
pub mod Columns
