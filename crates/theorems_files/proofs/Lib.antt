-- Cases is the files of small laboratories with their answers; Files and Twice are those with which theorems are shown with numbers.
pub mod Cases
pub mod Files
pub mod Twice
