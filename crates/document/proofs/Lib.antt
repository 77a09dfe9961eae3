pub mod LineRuns
pub mod RowLevels
pub mod TextMarks
