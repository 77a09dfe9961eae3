pub mod Categories
pub mod Joined
pub mod Letters
pub mod Places
pub mod Rising
pub mod Runs
pub mod Sets
pub mod Words
