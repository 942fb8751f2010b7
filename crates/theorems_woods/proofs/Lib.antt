-- Both woods give the same bytes, and so with numbers.
pub mod BothWoods
pub mod Instances
