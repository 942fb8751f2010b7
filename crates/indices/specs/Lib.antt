-- What the contracts of indices cite beside the definitions of crates theorems_indices and spec_spline.
pub mod Words
pub mod Machine
