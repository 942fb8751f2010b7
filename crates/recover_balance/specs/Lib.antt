-- What the contracts of recover_balance cite beside the definitions of crate theorems_recovery.
pub mod Machine
