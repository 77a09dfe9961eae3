pub mod Children
mod Examples
pub mod Nested
pub mod Orders
pub mod Paths
pub mod Starting
