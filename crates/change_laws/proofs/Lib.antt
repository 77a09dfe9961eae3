pub mod Chains
pub mod EdgeLaws
pub mod Order
pub mod PlaceLaws
pub mod Placing
pub mod Rooms
pub mod Stretches
