-- What the contracts of recover cite beside the definitions of crate theorems_recovery.
pub mod Asks
pub mod Leaves
