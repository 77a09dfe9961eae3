pub mod Agreeing
pub mod Laying
