pub mod Over
pub mod Telling
pub mod Then
