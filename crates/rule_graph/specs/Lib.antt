pub mod Graphs
pub mod Keyed
pub mod Keys
pub mod Listing
pub mod Opening
pub mod Walks
