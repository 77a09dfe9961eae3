pub mod Batch
pub mod Place
pub mod Text
