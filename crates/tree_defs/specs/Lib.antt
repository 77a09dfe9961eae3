pub mod Cuts
pub mod Ends
pub mod Items
pub mod Reuse
pub mod Rows
pub mod Shape
pub mod Tree
pub mod TreeCode
