pub mod Case
pub mod Examples
pub mod Keep
pub mod Kept
pub mod KnownSets
pub mod Named
pub mod Places
pub mod Ranges
