pub mod Asks
pub mod Laws
pub mod Parts
pub mod Paths
pub mod Reaching
pub mod Reading
pub mod Starts
