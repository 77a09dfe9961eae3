pub mod EndTexts
pub mod Falls
pub mod Levels
pub mod Numbers
