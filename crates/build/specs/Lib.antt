-- What the contracts of build cite beside the definitions of other crates.
pub mod Asks
pub mod Leaves
