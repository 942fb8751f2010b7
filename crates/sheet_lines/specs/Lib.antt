-- What the contracts of sheet_lines cite beside the definitions of crates spec_sheet and base_text.
pub mod Machine
