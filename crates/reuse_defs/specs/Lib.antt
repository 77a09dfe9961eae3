pub mod Examples
pub mod Settled
pub mod Since
pub mod Unsettled
pub mod Whole
