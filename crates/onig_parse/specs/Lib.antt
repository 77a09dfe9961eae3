pub mod Formed
pub mod KeptClasses
pub mod Reader
pub mod Reading
pub mod ReadingLaws
