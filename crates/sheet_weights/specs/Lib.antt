-- What the contracts of the w lines cite beside the definitions of crates spec_sheet and base_print.
pub mod Printed
