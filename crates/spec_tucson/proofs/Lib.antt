-- The definitions in specs/, computed: small texts and lists with what the two calls end with; and for other crates to cite Lines, laws of
-- lines, years and fields, Kept, the lines of a laboratory's file that are kept, and Computing, what to unfold for an example.
pub mod Lines
pub mod Kept
pub mod Computing
pub mod Cases
