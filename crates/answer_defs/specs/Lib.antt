pub mod Answers
pub mod PairAnswers
pub mod PairAnswerExamples
pub mod TokenAnswers
