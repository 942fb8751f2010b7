-- What the contracts of curve_reach_search cite beside the definitions of crates spec_spline and spec_calls.
pub mod Machine
pub mod Asks
