-- What the contracts of sheet_read cite beside the definitions of crates spec_sheet and base_text.
pub mod Scanned
pub mod Machine
