-- The five lines one after the other, what is written reads back, the lines of the printout, and the definitions computed.
pub mod FiveLines
pub mod RoundTrip
pub mod Examples
pub mod Printout
pub mod Pairs
pub mod PrintoutExamples
pub mod Cases
