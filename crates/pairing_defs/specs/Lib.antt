pub mod BracketTexts
pub mod BracketTextExamples
pub mod Examples
pub mod Marks
pub mod OnLiterals
pub mod Pairing
