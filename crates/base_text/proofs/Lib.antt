-- Laws of parts of a text and of decimal digits. Beginning, Lacking, RoundTrip and Examples are of the definitions alone.
pub mod Slice
pub mod Cutting
pub mod Beginning
pub mod Digits
pub mod Numerals
pub mod Decimal
pub mod RoundTrip
pub mod Lacking
pub mod Examples
