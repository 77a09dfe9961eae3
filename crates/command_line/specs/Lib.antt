pub mod Command
pub mod Subjects
