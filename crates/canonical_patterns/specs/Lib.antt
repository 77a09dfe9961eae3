pub mod Canonical
pub mod ReadTrees
