pub mod Arena
pub mod Drafts
pub mod Kept
