pub mod Bounds
pub mod Each
pub mod FreshLaw
pub mod RowParts
pub mod RowsOfMarks
pub mod Trees
