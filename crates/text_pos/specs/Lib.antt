pub mod KindSet
pub mod Lengths
