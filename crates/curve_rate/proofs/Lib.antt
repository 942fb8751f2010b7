-- The laws behind a rate: what the inverse and the rate lack, and the sizes of all that is worked out.
pub mod Quotient
pub mod Sizes
