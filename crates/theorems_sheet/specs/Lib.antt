-- Statements on the printout of a sheet, which crate spec_sheet defines.
pub mod LowLines
