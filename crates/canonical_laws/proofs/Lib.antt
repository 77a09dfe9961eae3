pub mod CodeSets
pub mod Alike
pub mod Searches
pub mod Readings
