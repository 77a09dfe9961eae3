pub mod GeneratedText
pub mod Summary
pub mod GeneratorExamples
