-- The table of indices (§ 17): its numbers, the lines of a series' rings, and what the call that writes them ends with.
pub mod Decimals
pub mod RingLines
pub mod RingLinesCall
