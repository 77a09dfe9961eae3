pub mod Cuts
pub mod Fronts
pub mod KeyLaws
pub mod Kept
