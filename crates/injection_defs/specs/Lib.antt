pub mod Injections
pub mod Examples
