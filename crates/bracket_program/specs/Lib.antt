pub mod Ends
pub mod Lines
pub mod Opens
pub mod Run
pub mod Serving
pub mod Sessions
pub mod Statuses
pub mod Texts
