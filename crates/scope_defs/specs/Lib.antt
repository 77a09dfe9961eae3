pub mod Frames
pub mod ScopeExamples
pub mod Scopes
pub mod SelectorExamples
pub mod SelectorSyntax
pub mod Selectors
pub mod StandardType
