-- What is proved of ring indices (§ 9).
pub mod Rings
