-- The program `rings` (§ 18): the parts of its input, the lists that are ready or the first refusal, and its bytes.
pub mod Parts
pub mod Ready
pub mod Rings
