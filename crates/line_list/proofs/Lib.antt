pub mod Full
pub mod Laid
pub mod Windows
