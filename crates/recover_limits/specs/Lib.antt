-- What the contracts of recover_limits cite beside the definitions of crate theorems_recovery.
pub mod Ordinates
