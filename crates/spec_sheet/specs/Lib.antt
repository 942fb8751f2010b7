-- The sheet (§ 13; § 8): what its five lines are read to, the text of given lists, and the printout; the read call in ReadSheet, the whole
-- program in Sheet, and sheets computed in Cases.
pub mod SheetReading
pub mod SheetText
pub mod Printout
pub mod Pairs
pub mod ReadSheet
pub mod Sheet
pub mod Cases
