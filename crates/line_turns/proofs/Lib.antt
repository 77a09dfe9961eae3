pub mod Begins
pub mod Calls
pub mod Entries
pub mod Few
pub mod Found
pub mod Runs
pub mod Takens
