pub mod Ahead
pub mod Orders
pub mod Places
pub mod Spots
pub mod TextMarks
