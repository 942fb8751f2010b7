-- Computing names what examples of the published construction are computed with; Cases proves the statement of specs/Cases.
pub mod Computing
pub mod Cases
