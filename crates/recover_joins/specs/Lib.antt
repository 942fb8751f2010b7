-- What the contracts of recover_joins cite beside the definitions of crates spec_spline and theorems_recovery.
pub mod Leaves
pub mod Asks
