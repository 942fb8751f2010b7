-- The crate's hand-written modules. Tests: order by the parts. Words: the parts read back from their words.
pub mod Tests
pub mod Words
