pub mod Cut
pub mod Grammars
pub mod Machines
pub mod Passes
