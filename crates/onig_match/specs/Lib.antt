pub mod Goes
pub mod Machine
pub mod Piles
pub mod Rooms
pub mod Sound
pub mod Works
