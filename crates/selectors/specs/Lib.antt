pub mod Machine
pub mod Meanings
pub mod Needs
pub mod Piles
pub mod RefusalLaws
pub mod Refused
pub mod Truths
pub mod Verdicts
