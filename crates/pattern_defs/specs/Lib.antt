pub mod Attempt
pub mod AttemptExamples
pub mod FirstMatch
pub mod Patterns
