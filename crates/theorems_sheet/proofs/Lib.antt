-- What positive coefficients give.
pub mod LowLines
