pub mod EditTexts
pub mod GeneratedTexts
pub mod MadeEdits
