pub mod Alike
pub mod Covering
pub mod FirstFaults
pub mod FoundBack
pub mod KeptEntries
pub mod NeedLaws
pub mod Passing
