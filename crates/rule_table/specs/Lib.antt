pub mod Fits
pub mod ScopeTexts
pub mod Views
