pub mod Known
pub mod Answers
pub mod Told
pub mod Parts
