-- When the curve reaches a width (§ 10), which crate spec_calls defines: the statements in FirstReach, the machine's form in Machine,
-- what the search for a wood part asks in Asks.
pub mod FirstReach
pub mod Machine
pub mod Asks
