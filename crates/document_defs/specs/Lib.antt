pub mod DocumentAnswers
pub mod TextRows
