pub mod Answers
pub mod Bounds
pub mod Entries
pub mod Fronts
pub mod Pasts
pub mod Rows
pub mod Runs
pub mod Scanners
