pub mod AddLaws
pub mod Counting
pub mod Olds
pub mod Parsing
pub mod Reading
pub mod Reusing
