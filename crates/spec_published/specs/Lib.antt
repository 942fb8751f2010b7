-- The published construction (§ 5) as definitions, and the statement that it agrees on the cases of spec_spline: Cases.
pub mod Published
pub mod Cases
