-- What the contracts of indices_rings cite beside the definitions of crate theorems_indices.
pub mod Cells
