-- What the contracts of base_arithmetic ask of their operands.
pub mod Operands
