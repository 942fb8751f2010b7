-- What the contracts of recover_counted cite beside the definitions of crate theorems_recovery.
pub mod Machine
