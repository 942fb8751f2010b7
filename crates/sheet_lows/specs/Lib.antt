-- What the contracts of the low lines cite beside the definitions of crates spec_sheet and base_print.
pub mod Printed
