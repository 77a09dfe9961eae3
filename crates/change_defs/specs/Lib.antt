pub mod Agreement
pub mod Changes
pub mod Examples
pub mod FreshMarks
