-- The numbers of a line read back, then its fields, then all lines; tables computed, and a series that reads back.
pub mod Numbers
pub mod Fields
pub mod ReadsBack
pub mod Cases
pub mod Instances
