pub mod Children
pub mod Runs
