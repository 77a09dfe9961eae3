pub mod Falls
pub mod Keys
pub mod Numbers
pub mod View
