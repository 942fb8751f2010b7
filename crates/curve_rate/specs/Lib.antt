-- What the contracts of curve_rate cite.
pub mod Rate
