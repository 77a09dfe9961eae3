pub mod Halves
pub mod Mapping
pub mod Pushing
