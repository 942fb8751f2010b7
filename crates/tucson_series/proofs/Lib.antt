-- Laws of the tests of series, of their years, their bytes and of the walk over all of them.
pub mod Tests
pub mod Years
pub mod Sizes
pub mod Bytes
pub mod Walk
pub mod Unwritable
