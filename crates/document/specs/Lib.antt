pub mod AskRefusals
pub mod RowQuestions
pub mod Settings
pub mod State
