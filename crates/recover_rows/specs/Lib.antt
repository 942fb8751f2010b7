-- What the contracts of recover_rows cite beside the definitions of crate theorems_recovery.
pub mod Machine
