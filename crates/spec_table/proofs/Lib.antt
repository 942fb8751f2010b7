-- The definitions in specs/, computed: numbers, names, lines and what the call ends with; and for other crates to cite Names, how long a name
-- is at most.
pub mod Names
pub mod Cases
