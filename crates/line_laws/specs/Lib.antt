pub mod Matches
pub mod RunEnds
pub mod Starts
pub mod Ways
