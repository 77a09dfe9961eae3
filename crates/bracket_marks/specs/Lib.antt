pub mod Longest
pub mod MarkLaws
pub mod MarkedLine
pub mod PairViews
