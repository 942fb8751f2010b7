-- The proofs of the statements in specs/.
pub mod Balance
pub mod Places
pub mod Middle
pub mod Nodes
pub mod Instances
