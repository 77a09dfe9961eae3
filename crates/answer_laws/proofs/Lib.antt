mod AnswerLemmas
mod Finds
mod LevelLemmas
mod GuideLemmas
