pub mod Falls
pub mod Shapes
pub mod Sorts
pub mod View
pub mod Weight
