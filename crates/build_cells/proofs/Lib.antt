-- The crate's hand-written modules.
pub mod Region
pub mod Tables
pub mod Buffer
pub mod Left
